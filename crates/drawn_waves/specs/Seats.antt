-- What clauses read of a wave's table and of a seat.
use Rattle.std.specs.Prelude.{◌≡◌, List}
use Rattle.drawn_waves.specs.declared.table.WorkerView.{WorkerView}
use Rattle.drawn_waves.specs.declared.table.PieceTable.{PieceTable}
use Rattle.drawn_waves.specs.declared.table.PieceSeat.{PieceSeat}

abbrev pub view : {I : Type 0} → PieceSeat I → WorkerView I
view seat = seat.seat.me.0

-- the items that the table was made with
abbrev pub items_of : {I : Type 0} → PieceTable I → List I
items_of table = table.table.shared.key.items.value.items

abbrev pub IsSeatOf : {I : Type 0} → PieceTable I → PieceSeat I → Type 0
IsSeatOf table seat = seat.seat.table_id ≡ table.table.shared.table_id

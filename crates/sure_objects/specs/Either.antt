-- A tree of either form.
use Rattle.std.specs.Prelude.{ℕ, List}
use Rattle.build_base.specs.MemoryTree.{file_at}
use Rattle.build_base.specs.Outside.{Files}
use Rattle.sure_objects.specs.Files.{found_in}
use Rattle.sure_objects.specs.declared.sure_tree.Forms.{Forms}
use Rattle.sure_objects.specs.declared.sure_tree.Forms.TheVariants.{Listed, Tabled}

-- what stands at each path
abbrev pub held_of : Forms → Files
held_of (Listed tree) = file_at tree.files
held_of (Tabled tree) = found_in tree.files.entries

-- the paths of the calls that answered
abbrev pub reads_of : Forms → List (List ℕ)
reads_of (Listed tree) = tree.reads
reads_of (Tabled tree) = tree.reads

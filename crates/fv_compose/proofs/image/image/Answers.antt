use Rattle.std.proofs.Common.{◌≡◌, length, arith, ◌∙◌, ap, refl}
use Rattle.std.proofs.lemmas.Grind.{common_steps}
use Rattle.build_base.specs.Pieces.{put_pieces}
use Rattle.build_base.specs.Runs.{free_byte}
use Rattle.fv_compose.specs.Header.{header_end}
use Rattle.fv_compose.specs.Files.{plain_files, files_pieces, top_pieces, top_of}
use Rattle.fv_compose.specs.Volume.{last_end}
use Rattle.fv_compose.proofs.FileLemmas.{bytes_with_top}
use Rattle.fv_compose.proofs.ImageLemmas.{image_is, taken_after, first_small}
use Rattle.fv_compose.proofs.image.image.Goals as goal

pub put_files-requires-clause-short : goal.put_files-requires-clause-short
put_files-requires-clause-short c =
    let e : c.put.new.self.bytes ≡ c.in_ok-head.head.items = c.in_ok-put.ensures.bytes ∙ rw (c.new-out.ensures, c.from_vec.ensures) refl in
    let l : length c.put.new.self.bytes ≡ header_end c.args.plan.now.name_guid = ap length e ∙ (let k = c.in_ok-head.ensures.length in grind (arith, common_steps)) in
    let room = taken_after (last_end c.args.plan.now c.args.files.now) c.args.size _ c.requires.length.room in
    rw l (omega arith)

pub returns-clause-value : goal.returns-clause-value
returns-clause-value c =
    let plan = c.args.plan.now in
    let files = c.args.files.now in
    let head = c.put.new.self.bytes in
    let body = c.put_files.new.out.bytes in
    let out = c.put_top.new.out.bytes in
    let e : head ≡ c.in_ok-head.head.items = c.in_ok-put.ensures.bytes ∙ rw (c.new-out.ensures, c.from_vec.ensures) refl in
    let l : length head ≡ header_end plan.name_guid = ap length e ∙ (let k = c.in_ok-head.ensures.length in grind (arith, common_steps)) in
    let b : body ≡ put_pieces (free_byte plan.erase) head (files_pieces plan.erase (header_end plan.name_guid) (plain_files files)) = rw l at c.in_ok-put_files.ensures.bytes in
    let m : length body ≡ last_end plan files = rw l at c.in_ok-put_files.ensures.len in
    let o : out ≡ put_pieces (free_byte plan.erase) body (top_pieces plan.erase (last_end plan files) (top_of files) c.args.size) = rw (m, c.requires.top) at c.in_ok-put_top.ensures.bytes in
    let f : c.put_top.new.out.free ≡ free_byte plan.erase =
    c.in_ok-put_top.ensures.free ∙ c.in_ok-put_files.ensures.free ∙ c.in_ok-put.ensures.free ∙ rw c.new-out.ensures refl in
    c.finish.ensures.bytes ∙ c.in_ok-fill.ensures.bytes
    ∙ rw (c.length-len.ensures, f) (image_is plan files c.args.size head body out c.requires.aligned (rw c.requires.top at c.requires.length.room) (e ∙ c.in_ok-head.ensures.items) l b o)

pub returns-clause-runs : goal.returns-clause-runs
returns-clause-runs c =
    let plan = c.args.plan.now in
    let files = c.args.files.now in
    let head = c.put.new.self.bytes in
    let e : head ≡ c.in_ok-head.head.items = c.in_ok-put.ensures.bytes ∙ rw (c.new-out.ensures, c.from_vec.ensures) refl in
    let l : length head ≡ header_end plan.name_guid = ap length e ∙ (let k = c.in_ok-head.ensures.length in grind (arith, common_steps)) in
    let s = first_small plan.name_guid in
    let t = bytes_with_top files in
    let p = rw c.requires.top at c.in_ok-put_top.ensures.kept in
    let q : c.put.new.self.kept ≡ length head = c.in_ok-put.ensures.kept ∙ rw (c.new-out.ensures, e, c.from_vec.ensures) (omega arith) in
    record {
      kept = omega (arith, c.finish.ensures.kept, c.in_ok-fill.ensures.kept, c.in_ok-put_files.ensures.kept);
      blank = c.finish.ensures.blank;
      short = c.finish.ensures.short;
    }

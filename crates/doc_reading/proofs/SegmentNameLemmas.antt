-- A name below the folder `Build` is a path.
use Rattle.std.proofs.Common.{◌++◌, ◌≤◌, ◌&&◌, ◌==◌, not, nat_le, Bool, true, false, IsTrue, codes, List, ℕ, length, refl, arith, length-append}
use Rattle.std.specs.List.{list_any}
use Rattle.std.proofs.lemmas.Bool.Decides.{nat_tests}
use Rattle.build_base.specs.Path.{IsPath, IsPathField, is_path, is_segment, is_dots, is_path_byte}
use Rattle.build_base.proofs.PathLemmas.{IsPath-join}
use Rattle.doc_reading.specs.SegmentNames.{is_segment_name, IsSegmentName}

build_is_path : IsPath (codes "Build")
unfolding is_path is_segment is_dots is_path_byte
build_is_path = refl

first_two : (a b c : Bool) → IsTrue (a && b && c) → IsTrue a × IsTrue c
first_two true true c h = (refl, h)
first_two true false c h = absurd cc
first_two false b c h = absurd cc

pub folder_is_path : (name : List ℕ) → IsSegmentName name → IsPathField (codes "Build/" ++ name)
unfolding is_segment_name
folder_is_path name h =
    let parts = first_two (nat_le (length name) 64) (not (list_any (λ b. b == 47) name)) (is_path name) h in
    let short : length name ≤ 64 = grind (arith, nat_tests) in
    record {
      segments = IsPath-join (codes "Build") name build_is_path parts.1;
      short = omega (arith, length-append {A = ℕ});
    }

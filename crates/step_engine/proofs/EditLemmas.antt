-- Edits, one after another.
use Rattle.std.proofs.Common.{◌≡◌, ℕ, nat_eq, List, [], ◌∷◌, ◌++◌, Option, Some, None, IfSome, Bool, true, false, cond, refl, sym, ap, ◌∙◌}
use Rattle.std.specs.Cmp.Lexicographic.{pointwise}
use Rattle.build_base.specs.Outside.{Files, got_of}
use Rattle.build_base.specs.World.{file_limit}
use Rattle.build_base.specs.declared.outside.Got.{Got}
use Rattle.step_engine.specs.Edits.{with_edit, edited, over, last_edit}
use Rattle.step_engine.specs.declared.edits.Edit.{Edit}

-- no edits leave what is told
pub over_none : (held : Option Files) → over [] held ≡ held
over_none None = refl
over_none (Some files) = refl

-- one more edit
pub edited_more : (edits : List Edit) (e : Edit) (files : Files) → edited (edits ++ e ∷ []) files ≡ with_edit e (edited edits files)
edited_more [] e files = refl
edited_more (x ∷ edits) e files = edited_more edits e (with_edit x files)

-- what stands at a path by the edit that was found
abbrev by_edit : Option Edit → Option (List ℕ) → Option (List ℕ)
by_edit None bytes = bytes
by_edit (Some e) bytes = e.bytes

by_one : (b : Bool) (e : Edit) (found : Option Edit) (now before : Option (List ℕ)) → now ≡ by_edit found before → cond b e.bytes now ≡ by_edit (cond b (Some e) found) before
by_one true e found now before h = refl
by_one false e found now before h = h

-- at a path stands what the last edit of it says
edited_at : (edits : List Edit) (files : Files) (found : Option Edit) (path : List ℕ) (before : Option (List ℕ)) → files path ≡ by_edit found before → edited edits files path ≡ by_edit (last_edit found edits path) before
edited_at [] files found path before h = h
edited_at (e ∷ edits) files found path before h = edited_at edits (with_edit e files) (cond (pointwise nat_eq e.path path) (Some e) found) path before (by_one (pointwise nat_eq e.path path) e found (files path) before h)

-- what is got of a path that has an edit
pub got_edit : (edits : List Edit) (held : Option Files) (path : List ℕ) (e : Edit) (got : Got) → Some e ≡ last_edit None edits path → got ≡ got_of file_limit e.bytes → IfSome (over edits held) (λ files. got ≡ got_of file_limit (files path))
got_edit edits None path e got found is = tt
got_edit edits (Some files) path e got found is = is ∙ ap (got_of file_limit) (ap (λ f. by_edit f (files path)) found ∙ sym (edited_at edits files None path (files path) refl))

-- what is got of a path that has none
pub got_tree : (edits : List Edit) (held : Option Files) (path : List ℕ) (got : Got) → None ≡ last_edit None edits path → IfSome held (λ files. got ≡ got_of file_limit (files path)) → IfSome (over edits held) (λ files. got ≡ got_of file_limit (files path))
got_tree edits None path got found is = tt
got_tree edits (Some files) path got found is = is ∙ ap (got_of file_limit) (ap (λ f. by_edit f (files path)) found ∙ sym (edited_at edits files None path (files path) refl))

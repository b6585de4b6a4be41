-- The outermost of the open conditionals.
use Rattle.std.proofs.Common.{◌≡◌, ℕ, List, [], ◌∷◌, ◌++◌, map, reverse, Option, Some, None, slice_get, refl, sym, ap, ◌∙◌}
use Rattle.std.proofs.lemmas.List.{reverse-append}
use Rattle.macro_conditions.specs.declared.work.Frame as code_frame
use Rattle.macro_conditions.specs.LineStack.{Frame, outermost}
use Rattle.macro_conditions.specs.Work.{frames_of, frame_view, line_in}
use Rattle.build_base.specs.declared.lines.Taken.{Taken as Line}

outermost-push : (fs : List Frame) (f : Frame) (o : Option Line) → outermost (fs ++ f ∷ []) o ≡ Some f.opener
outermost-push [] f o = refl
outermost-push (g ∷ fs) f o = outermost-push fs f (Some g.opener)

pub outer_is : (path bytes : List ℕ) (fs : List code_frame.Frame) (x : code_frame.Frame) → Some x ≡ slice_get fs 0 → outermost (frames_of path bytes fs) None ≡ Some (line_in path bytes x.opener)
outer_is path bytes [] x e = cc
outer_is path bytes (y ∷ fs) x e =
    let same : x ≡ y = cc in
    ap (λ gs. outermost gs None) (reverse-append (frame_view path bytes y ∷ []) (map (frame_view path bytes) fs)) ∙ outermost-push (reverse (map (frame_view path bytes) fs)) (frame_view path bytes y) None ∙ ap (λ (f : code_frame.Frame). Some (line_in path bytes f.opener)) (sym same)

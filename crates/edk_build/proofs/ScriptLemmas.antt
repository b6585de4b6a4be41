-- The lines of a script, one after the other, and the jobs in them.
use Rattle.std.proofs.Common.{◌≡◌, false, true, refl, sym, ap, ◌∙◌, ℕ, List, [], ◌∷◌, ◌++◌, Option, Some, None, nat_le, cond, append_assoc, append-nil, subst, length, length-append, ◌+◌, ◌≤◌, arith}
use Rattle.std.specs.Prelude.{codes}
use Rattle.std.specs.List.{list_all}
use Rattle.std.specs.Option.{option_map, IfSome}
use Rattle.std.proofs.lemmas.List.Elements.{All-nil, All-cons}
use Rattle.build_base.specs.Path.{path_field}
use Rattle.macro_expressions.specs.Macros.{same_text}
use Rattle.meta_lexer.specs.Lines.{Piece, is_plain, pieces_from, without_return}
use Rattle.meta_lexer.specs.Parts.{words_of}
use Rattle.edk_build.specs.Script.{put_of, drop_of, build_of, order_of, content_of, content_in, script_line, lines_at, with_content, line_content, lines_among, script_of, HasJob, HaveJobs}
use Rattle.build_words.specs.Jobs.{words_job}
use Rattle.edk_build.proofs.WordLemmas.{is_job_of}
use Rattle.job_fields.specs.declared.job.Job.{Job}
use Rattle.edk_build.specs.declared.script.ScriptCommand.{ScriptCommand}
use Rattle.edk_build.specs.declared.script.ScriptCommand.TheVariants as order
use Rattle.edk_build.specs.declared.script.ScriptLine.{ScriptLine}

after_front : (xs ys : List ScriptLine) (z : Option (List ScriptLine)) → option_map (λ more. xs ++ more) (option_map (λ lines. ys ++ lines) z) ≡ option_map (λ more. (xs ++ ys) ++ more) z
after_front xs ys None = refl
after_front xs ys (Some more) = ap Some (sym (append_assoc xs ys more))

-- one line more is in the grammar
pub lines_more : (lines lines' : List ScriptLine) (all : List Piece) (piece : Piece) (pieces : List Piece) (content : Option ScriptCommand) (whole : Option (List ScriptLine))
    → option_map (λ more. lines ++ more) (lines_among all) ≡ whole → all ≡ piece ∷ pieces → Some content ≡ line_content piece → lines' ≡ lines ++ lines_at piece.number content
    → option_map (λ more. lines' ++ more) (lines_among pieces) ≡ whole
unfolding lines_among
lines_more lines lines' all piece pieces content whole i p c e =
    ap (λ z. option_map (λ more. z ++ more) (lines_among pieces)) e
    ∙ sym (after_front lines (lines_at piece.number content) (lines_among pieces))
    ∙ ap (λ z. option_map (λ more. lines ++ more) (with_content piece.number z (lines_among pieces))) c
    ∙ ap (λ z. option_map (λ more. lines ++ more) (lines_among z)) (sym p) ∙ i

-- a line isn't
pub lines_none : (lines : List ScriptLine) (all : List Piece) (piece : Piece) (pieces : List Piece) (whole : Option (List ScriptLine))
    → option_map (λ more. lines ++ more) (lines_among all) ≡ whole → all ≡ piece ∷ pieces → None ≡ line_content piece → None ≡ whole
unfolding lines_among
lines_none lines all piece pieces whole i p c =
    ap (λ z. option_map (λ more. lines ++ more) (with_content piece.number z (lines_among pieces))) c
    ∙ ap (λ z. option_map (λ more. lines ++ more) (lines_among z)) (sym p) ∙ i

-- no line is left
pub lines_end : (lines : List ScriptLine) (pieces : List Piece) (whole : Option (List ScriptLine))
    → option_map (λ more. lines ++ more) (lines_among pieces) ≡ whole → pieces ≡ [] → Some lines ≡ whole
unfolding lines_among
lines_end lines pieces whole i e =
    ap Some (sym (append-nil lines)) ∙ ap (λ z. option_map (λ more. lines ++ more) (lines_among z)) (sym e) ∙ i

-- a line holds one order at most
pub line_counted : (lines lines' : List ScriptLine) (number : ℕ) (content : Option ScriptCommand) → length lines + 1 ≤ number → lines' ≡ lines ++ lines_at number content → length lines' + 1 ≤ number + 1
line_counted lines lines' number None l e = subst (λ z. length z + 1 ≤ number + 1) (sym (e ∙ append-nil lines)) (omega (arith, l))
line_counted lines lines' number (Some order) l e =
    subst (λ z. z + 1 ≤ number + 1) (sym (ap length e ∙ length-append lines (script_line number order ∷ []))) (omega (arith, l))

pub line_numbered : (number : ℕ) → number ≤ 1000 → number + 1 ≤ 1001
line_numbered number l = omega (arith, l)

build_has : (words : List (List ℕ)) (z : Option Job) (o : ScriptCommand) → words_job words ≡ z → option_map order.Build z ≡ Some o → HasJob o
build_has words None o e h = absurd cc
build_has words (Some job) o e h =
    let same : order.Build job ≡ o = cc h in subst HasJob same (is_job_of words job e)

put_has : (path from : Option (List ℕ)) (o : ScriptCommand) → put_of path from ≡ Some o → HasJob o
put_has (Some path) (Some from) o h = let same : order.Put path from ≡ o = cc h in subst HasJob same tt
put_has (Some path) None o h = absurd cc
put_has None from o h = absurd cc

drop_has : (path : Option (List ℕ)) (o : ScriptCommand) → drop_of path ≡ Some o → HasJob o
drop_has (Some path) o h = let same : order.Drop path ≡ o = cc h in subst HasJob same tt
drop_has None o h = absurd cc

order_has : (words : List (List ℕ)) (o : ScriptCommand) → order_of words ≡ Some o → HasJob o
unfolding order_of
order_has [] o h = build_has [] (words_job []) o refl h
order_has (name ∷ []) o h = build_has (name ∷ []) (words_job (name ∷ [])) o refl h
order_has (name ∷ path ∷ []) o h =
    elim (same_text name (codes "drop")) as (λ b. cond b (drop_of (path_field path)) (build_of (name ∷ path ∷ [])) ≡ Some o → HasJob o) [
      | true ↦ λ e. drop_has (path_field path) o e
      | false ↦ λ e. build_has (name ∷ path ∷ []) (words_job (name ∷ path ∷ [])) o refl e
    ] h
order_has (name ∷ path ∷ from ∷ []) o h =
    elim (same_text name (codes "put")) as (λ b. cond b (put_of (path_field path) (path_field from)) (build_of (name ∷ path ∷ from ∷ [])) ≡ Some o → HasJob o) [
      | true ↦ λ e. put_has (path_field path) (path_field from) o e
      | false ↦ λ e. build_has (name ∷ path ∷ from ∷ []) (words_job (name ∷ path ∷ from ∷ [])) o refl e
    ] h
order_has (name ∷ path ∷ from ∷ word ∷ words) o h =
    build_has (name ∷ path ∷ from ∷ word ∷ words) (words_job (name ∷ path ∷ from ∷ word ∷ words)) o refl h

some_has : (z : Option ScriptCommand) (content : Option ScriptCommand) → ((o : ScriptCommand) → z ≡ Some o → HasJob o) → option_map Some z ≡ Some content → IfSome content HasJob
some_has None content f h = absurd cc
some_has (Some o) content f h = let same : Some o ≡ content = cc h in subst (λ z. IfSome z HasJob) same (f o refl)

content_has : (words : List (List ℕ)) (content : Option ScriptCommand) → content_of words ≡ Some content → IfSome content HasJob
content_has [] content h = let same : None ≡ content = cc h in subst (λ z. IfSome z HasJob) same tt
content_has (word ∷ words) content h = some_has (order_of (word ∷ words)) content (λ o e. order_has (word ∷ words) o e) h

plain_has : (text : List ℕ) (content : Option ScriptCommand) → content_in text ≡ Some content → IfSome content HasJob
plain_has text content h =
    elim (list_all is_plain text) as (λ b. cond b (content_of (words_of text)) None ≡ Some content → IfSome content HasJob) [
      | true ↦ λ e. content_has (words_of text) content e
      | false ↦ λ e. absurd cc
    ] h

line_has : (piece : Piece) (content : Option ScriptCommand) → line_content piece ≡ Some content → IfSome content HasJob
line_has piece content h =
    elim (nat_le piece.number 1000) as (λ b. cond b (content_in (without_return piece.bytes)) None ≡ Some content → IfSome content HasJob) [
      | true ↦ λ e. plain_has (without_return piece.bytes) content e
      | false ↦ λ e. absurd cc
    ] h

front_has : (number : ℕ) (content : Option ScriptCommand) (more : List ScriptLine) → IfSome content HasJob → HaveJobs more → HaveJobs (lines_at number content ++ more)
front_has number None more c m = m
front_has number (Some o) more c m = All-cons (λ line. HasJob line.order) (script_line number o) more c m

with_has : (number : ℕ) (x : Option (Option ScriptCommand)) (y : Option (List ScriptLine)) (lines : List ScriptLine) → ((content : Option ScriptCommand) → x ≡ Some content → IfSome content HasJob)
    → ((more : List ScriptLine) → y ≡ Some more → HaveJobs more) → with_content number x y ≡ Some lines → HaveJobs lines
with_has number None y lines f g h = absurd cc
with_has number (Some content) None lines f g h = absurd cc
with_has number (Some content) (Some more) lines f g h =
    let same : lines_at number content ++ more ≡ lines = cc h in subst HaveJobs same (front_has number content more (f content refl) (g more refl))

lines_have : (pieces : List Piece) (lines : List ScriptLine) → lines_among pieces ≡ Some lines → HaveJobs lines
unfolding lines_among
lines_have [] lines h = let same : [] ≡ lines = cc h in subst HaveJobs same (All-nil (λ line. HasJob line.order))
lines_have (piece ∷ pieces) lines h =
    with_has piece.number (line_content piece) (lines_among pieces) lines (λ content e. line_has piece content e) (λ more e. lines_have pieces more e) h

-- the fields of each build of a script are those of a job
pub script_has : (bytes : List ℕ) (lines : List ScriptLine) → script_of bytes ≡ Some lines → HaveJobs lines
unfolding script_of
script_has bytes lines h = lines_have (pieces_from 1 0 bytes) lines h

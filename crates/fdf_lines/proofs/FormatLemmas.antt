-- What the reader of a flash description holds, with one line more.
use Rattle.std.proofs.Common.{◌≡◌, ◌∙◌, ℕ, ◌+◌, nat_lt, if◌then◌else◌, List, [], ◌∷◌, ◌++◌, Some, None, codes, refl, sym, ap, arith}
use Rattle.std.proofs.lemmas.List.{map-append}
use Rattle.build_base.specs.FaultText.{fault_of}
use Rattle.build_base.specs.declared.fault.Place.{Place}
use Rattle.build_base.specs.declared.lines.Taken.{Taken}
use Rattle.doc_reading.specs.Grammar.{Read, entered, gave}
use Rattle.fdf_words.specs.declared.rows.LineRead.{LineRead}
use Rattle.fdf_words.specs.declared.rows.Row.{Row}
use Rattle.fdf_words.specs.declared.rows.Scope.{Scope}
use Rattle.fdf_lines.specs.declared.section.FlashSection.{FlashSection}
use Rattle.fdf_words.specs.declared.marks.Marks.{Marks}
use Rattle.fdf_lines.specs.Counts.{count_of, saturated, one_scope, scopes_in, heads_above, statements_in, statements_here}
use Rattle.fdf_lines.specs.Grammar.{many_fault, heads_fault}
use Rattle.fdf_lines.specs.Reads.{read_as, reads_as}
use Rattle.fdf_lines.proofs.CountLemmas.{saturated_twice, saturated_once, above_limit, count_push, statements_more}
use Rattle.build_base.specs.FaultCodes.{TOO_MANY}

pub reads_more : (old new : List LineRead) (one : LineRead) (above : List (Read Scope Row)) → reads_as old ≡ above → new ≡ old ++ one ∷ []
    → reads_as new ≡ above ++ read_as one ∷ []
reads_more old new one above h n = ap reads_as n ∙ map-append read_as old (one ∷ []) ∙ ap (λ rs. rs ++ read_as one ∷ []) h

-- heads above and in this line
pub many_counted : (line : Taken) (a b above n : ℕ) → above ≡ saturated a → n ≡ saturated (above + saturated b) → many_fault line n ≡ many_fault line (a + b)
many_counted line a b above n h e =
    ap (λ t. if t then Some (fault_of TOO_MANY line.at (codes "65536")) else None)
    (ap (nat_lt 65535) (e ∙ ap (λ m. saturated (m + saturated b)) h ∙ saturated_twice a b) ∙ above_limit (a + b))

pub heads_same : (line : Taken) (marks other : Marks) (d v r a b c : ℕ) → marks ≡ other → many_fault line d ≡ many_fault line a → many_fault line v ≡ many_fault line b
    → many_fault line r ≡ many_fault line c → heads_fault line marks d v r ≡ heads_fault line other a b c
heads_same line marks other d v r a b c m e f g = rw m (rw e (rw f (rw g refl)))

pub heads_begun : (section : FlashSection) (above : List (Read Scope Row)) (at : Place) (scopes : List Scope) (old new : ℕ) → old ≡ saturated (heads_above section above)
    → new ≡ saturated (old + saturated (count_of (one_scope section) scopes)) → new ≡ saturated (heads_above section (above ++ entered at scopes ∷ []))
heads_begun section above at scopes old new h n =
    n ∙ ap (λ m. saturated (m + saturated (count_of (one_scope section) scopes))) h
    ∙ saturated_twice (heads_above section above) (count_of (one_scope section) scopes)
    ∙ ap saturated (sym (count_push (scopes_in section) above (entered at scopes)))

plus_none : (n : ℕ) → n + 0 ≡ n
plus_none n = omega arith

pub heads_kept : (section : FlashSection) (above : List (Read Scope Row)) (rows : List Row) (old : ℕ) → old ≡ saturated (heads_above section above)
    → old ≡ saturated (heads_above section (above ++ gave rows ∷ []))
heads_kept section above rows old h =
    h ∙ ap saturated (sym (count_push (scopes_in section) above (gave rows) ∙ plus_none (heads_above section above)))

pub statements_kept : (above : List (Read Scope Row)) (rows : List Row) (old new one : ℕ) → old ≡ saturated (statements_here above) → one ≡ statements_in (gave rows)
    → new ≡ saturated (old + one) → new ≡ saturated (statements_here (above ++ gave rows ∷ []))
statements_kept above rows old new one h o n =
    n ∙ ap (λ m. saturated (m + one)) h ∙ ap (λ m. saturated (saturated (statements_here above) + m)) o
    ∙ saturated_once (statements_here above) (statements_in (gave rows))
    ∙ ap saturated (sym (statements_more above rows))

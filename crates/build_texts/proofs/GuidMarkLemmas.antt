-- Marks of the names of INF files.
use Rattle.std.proofs.Common.{◌≡◌, ℕ, Bool, true, List, [], ◌∷◌, map, subst, sym}
use Rattle.std.specs.Prelude.{fold}
use Rattle.std.specs.List.{All}
use Rattle.std.proofs.lemmas.List.Elements.{All-nil, All-cons, All-weaker}
use Rattle.doc_types.specs.declared.module.InfDoc.{InfDoc}
use Rattle.doc_types.specs.declared.module.Named.{Named}
use Rattle.pcd_resolve.specs.NameFilter.{is_kept}
use Rattle.pcd_resolve.proofs.NameFilterLemmas.{each_kept, stays, unmapped}
use Rattle.build_texts.specs.Named.{with_guids}

all_stay : (marks : List Bool) (infs : List InfDoc) (name : List ℕ) → is_kept marks name ≡ true → is_kept (fold with_guids marks infs) name ≡ true
all_stay marks [] name e = e
all_stay marks (inf ∷ infs) name e = all_stay (with_guids marks inf) infs name (stays marks (map (λ (n : Named). n.name) inf.guids) name e)

each : (marks : List Bool) (infs : List InfDoc) → All (λ inf. All (λ n. is_kept (fold with_guids marks infs) n.name ≡ true) inf.guids) infs
each marks [] = All-nil (λ (inf : InfDoc). All (λ n. is_kept (fold with_guids marks []) n.name ≡ true) inf.guids)
each marks (inf ∷ infs) =
    All-cons (λ (inf2 : InfDoc). All (λ n. is_kept (fold with_guids marks (inf ∷ infs)) n.name ≡ true) inf2.guids) inf infs
    (All-weaker (λ (n : Named). is_kept (with_guids marks inf) n.name ≡ true) (λ (n : Named). is_kept (fold with_guids marks (inf ∷ infs)) n.name ≡ true)
    (λ n e. all_stay (with_guids marks inf) infs n.name e) inf.guids
    (unmapped (λ n. is_kept (with_guids marks inf) n ≡ true) (λ (n : Named). n.name) inf.guids (each_kept marks (map (λ (n : Named). n.name) inf.guids))))
    (each (with_guids marks inf) infs)

pub infs_kept : (before marks : List Bool) (infs : List InfDoc) → marks ≡ fold with_guids before infs → All (λ inf. All (λ n. is_kept marks n.name ≡ true) inf.guids) infs
infs_kept before marks infs e = subst (λ m. All (λ inf. All (λ n. is_kept m n.name ≡ true) inf.guids) infs) (sym e) (each before infs)

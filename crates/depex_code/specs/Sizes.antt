-- What the compiler keeps of a tree: its postfix form, its GUIDs where it is a conjunction, and how
-- near it is to the limits.
use Rattle.std.specs.Prelude.{ℕ, ◌+◌, ◌&&◌, min, max, Bool, true, false, nat_le, if◌then◌else◌, List, [], ◌∷◌, ◌++◌, Option, Some, None}
use Rattle.build_base.specs.declared.guid.Guid.{Guid}
use Rattle.depex_code.specs.declared.token.Joiner.{Joiner}
use Rattle.depex_code.specs.declared.token.Joiner.TheVariants.{And, Or}
use Rattle.depex_code.specs.declared.token.Prefix.{Prefix}
use Rattle.depex_code.specs.declared.token.Prefix.TheVariants.{Not, Sor}
use Rattle.depex_code.specs.declared.token.Edge.{Edge}
use Rattle.depex_code.specs.declared.token.Edge.TheVariants.{Before, After}
use Rattle.depex_code.specs.Tree.{Tree, post, nest, opcodes, is_alone, both_lists, conjuncts}
use Rattle.depex_code.specs.Grammar.{guid_bytes}
use Rattle.depex_code.specs.Terms.{Makes}

pub record Reach : Type 0 where
  pub deep : ℕ
  pub count : ℕ

pub record Form : Type 0 where
  pub bytes : List ℕ
  pub guids : Option (List (List ℕ))

pub record Size : Type 0 where
  pub form : Form
  pub reach : Reach
  pub alone : Bool

-- past the limits the numbers don't grow
abbrev pub reach_of : ℕ → ℕ → Reach
reach_of deep count = record { deep = min deep 65; count = min count 4097 }

abbrev pub join_reach : Reach → Reach → Reach
join_reach a b = reach_of (max a.deep (b.deep + 1)) (a.count + b.count + 1)

abbrev pub prefix_reach : Reach → Reach
prefix_reach a = reach_of (a.deep + 1) (a.count + 1)

abbrev pub fits : Reach → Bool
fits r = nat_le r.deep 64 && nat_le r.count 4096

abbrev pub no_form : Form
no_form = record { bytes = []; guids = None }

-- nor is there a form
abbrev pub sized_piece : Bool → Form → Reach → Size
sized_piece alone form reach =
    record { form = if fits reach then form else no_form; reach = reach; alone = alone }

abbrev pub form_of : Tree → Form
form_of t = record { bytes = post t; guids = conjuncts t }

unfoldable pub size_of : Tree → Size
size_of t = sized_piece (is_alone t) (form_of t) (reach_of (nest t) (opcodes t))

abbrev pub edge_code : Edge → ℕ
edge_code Before = 0
edge_code After = 1

abbrev pub join_code : Joiner → ℕ
join_code And = 3
join_code Or = 4

abbrev pub prefix_bytes : Prefix → List ℕ → List ℕ
prefix_bytes Not bytes = bytes ++ 5 ∷ []
prefix_bytes Sor bytes = 9 ∷ bytes

abbrev pub join_guids : Joiner → Option (List (List ℕ)) → Option (List (List ℕ))
    → Option (List (List ℕ))
join_guids And a b = both_lists a b
join_guids Or a b = None

abbrev pub join_form : Joiner → Form → Form → Form
join_form op a b =
    record {
      bytes = a.bytes ++ b.bytes ++ join_code op ∷ [];
      guids =
          join_guids op a.guids b.guids;
    }

abbrev pub join_size : Joiner → Size → Size → Size
join_size op a b = sized_piece false (join_form op a.form b.form) (join_reach a.reach b.reach)

abbrev pub prefix_form : Prefix → Form → Form
prefix_form p a = record { bytes = prefix_bytes p a.bytes; guids = None }

abbrev pub prefix_size : Prefix → Size → Size
prefix_size p a = sized_piece false (prefix_form p a.form) (prefix_reach a.reach)

abbrev pub leaf_size : Bool → List ℕ → Option (List (List ℕ)) → Size
leaf_size alone bytes guids =
    record {
      form = record { bytes = bytes; guids = guids };
      reach = record { deep = 1; count = 1 };
      alone = alone;
    }

abbrev pub constant_size : Bool → Size
constant_size true = leaf_size false (6 ∷ []) (Some [])
constant_size false = leaf_size false (7 ∷ []) None

abbrev pub name_size : Option Guid → Size
name_size None = constant_size false
name_size (Some guid) = leaf_size false (2 ∷ guid.0) (Some (guid.0 ∷ []))

abbrev pub edge_size : Edge → Option Guid → Size
edge_size e g = leaf_size true (edge_code e ∷ guid_bytes g) None

abbrev pub sizes : Makes Size
sizes = record {
  name = name_size;
  constant = constant_size;
  edge = edge_size;
  prefix = prefix_size;
  join = join_size;
}

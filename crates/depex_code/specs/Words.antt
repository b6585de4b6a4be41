-- The words of an expression.
use Rattle.std.specs.Prelude.{ℕ, true, false, if◌then◌else◌, List, map, Option, codes}
use Rattle.std.specs.Str.{str_eq_ignore_ascii_case, bytes_eq}
use Rattle.build_base.specs.declared.guid.Guid.{Guid}
use Rattle.build_base.specs.First.{first_holding}
use Rattle.doc_types.specs.declared.depex.NamedGuid.{NamedGuid}
use Rattle.depex_code.specs.declared.token.Token.{Token}
use Rattle.depex_code.specs.declared.token.Token.TheVariants as token
use Rattle.depex_code.specs.declared.token.Joiner.TheVariants.{And, Or}
use Rattle.depex_code.specs.declared.token.Prefix.TheVariants.{Not, Sor}
use Rattle.depex_code.specs.declared.token.Edge.TheVariants.{Before, After}

-- the GUID of the first line that declares the name; names are compared by their bytes
unfoldable pub guid_named : List NamedGuid → List ℕ → Option Guid
guid_named guids name = first_holding (map (λ g. (bytes_eq g.name name, g.guid)) guids)

-- keywords count without regard to ASCII case; any other term is a name
unfoldable pub token_of : List NamedGuid → List ℕ → Token
token_of guids term =
    if str_eq_ignore_ascii_case term (codes "AND") then token.Joiner And
    else if str_eq_ignore_ascii_case term (codes "OR") then token.Joiner Or
    else if str_eq_ignore_ascii_case term (codes "NOT") then token.Prefix Not
    else if str_eq_ignore_ascii_case term (codes "SOR") then token.Prefix Sor
    else if str_eq_ignore_ascii_case term (codes "BEFORE") then token.Edge Before
    else if str_eq_ignore_ascii_case term (codes "AFTER") then token.Edge After
    else if str_eq_ignore_ascii_case term (codes "TRUE") then token.Constant true
    else if str_eq_ignore_ascii_case term (codes "FALSE") then token.Constant false
    else if bytes_eq term (codes "(") then token.Open
    else if bytes_eq term (codes ")") then token.Close
    else token.Name (guid_named guids term)

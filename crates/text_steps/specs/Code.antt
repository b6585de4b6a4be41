-- What the step of a module's texts gives, once all that it asks is answered (EDK II Build
-- specification, AutoGen files; EDK II DSC specification, FILE_GUID of a component).
use Rattle.step_answers.specs.Settings.{stated_guid}
use Rattle.std.specs.Prelude.{if◌then◌else◌, List, [], ◌∷◌, Option, Some, None, Result, Ok, Err}
use Rattle.build_base.specs.First.{and_then}
use Rattle.build_base.specs.declared.fault.Fault.{Fault}
use Rattle.build_base.specs.declared.guid.Guid.{Guid}
use Rattle.build_stages.specs.Stages.{impossible_answer}
use Rattle.build_texts.specs.declared.asks.CodeAsk.{CodeAsk}
use Rattle.build_texts.specs.Code.{code_texts}
use Rattle.doc_types.specs.declared.choice.Choice.{Choice}
use Rattle.doc_types.specs.declared.module.InfDoc.{InfDoc}
use Rattle.doc_types.specs.declared.parts.ModuleParts.{ModuleParts}
use Rattle.doc_types.specs.declared.platform.PlatformDoc.{PlatformDoc}
use Rattle.doc_types.specs.declared.texts.Texts.{Texts}
use Rattle.doc_types.specs.declared.values.Values.{Values}

-- the first description is the module's own
abbrev pub own_guid : List InfDoc → Result Guid Fault
own_guid [] = Err impossible_answer
own_guid (inf ∷ infs) = Ok inf.file_guid

abbrev pub guid_or_own : Option Guid → List InfDoc → Result Guid Fault
guid_or_own (Some guid) infs = Ok guid
guid_or_own None infs = own_guid infs

-- that of the component, else that of the INF file
unfoldable pub file_guid : PlatformDoc → ModuleParts → Result Guid Fault
file_guid platform parts = guid_or_own (stated_guid platform parts.«module») parts.infs

abbrev pub code_ask : Guid → ModuleParts → Choice → Values → CodeAsk
code_ask guid parts choice values =
    record { file_guid = guid; parts = parts; choice = choice; values = values }

abbrev pub some_texts : Result Texts Fault → Result (Option Texts) Fault
some_texts (Ok texts) = Ok (Some texts)
some_texts (Err fault) = Err fault

-- both texts of a module; a library has none
unfoldable pub code_given : PlatformDoc → Choice → Values → ModuleParts
    → Result (Option Texts) Fault
code_given platform choice values parts =
    if choice.library then Ok None
    else and_then (file_guid platform parts)
    (λ guid. some_texts (code_texts (code_ask guid parts choice values)))

-- The choice of libraries fails by a name.
use Rattle.std.specs.Prelude.{find, slice_get}
use Rattle.std.specs.List.{list_any}
use Rattle.std.proofs.Common.{ℕ, ◌&&◌, Bool, List, Option, Some, None}
use Rattle.build_base.specs.FaultCodes.{TYPE_NOT_SERVED}
use Rattle.build_base.specs.FaultText.{fault_of}
use Rattle.meta_lexer.specs.Faults.{first_fault}
use Rattle.doc_types.specs.declared.choice.Module.{Module}
use Rattle.doc_types.specs.declared.module.InfDoc.{InfDoc}
use Rattle.doc_types.specs.declared.module.Named.{Named}
use Rattle.doc_types.specs.declared.module.Served.{Served}
use Rattle.doc_types.specs.declared.platform.LibraryLine.{LibraryLine}
use Rattle.doc_types.specs.declared.platform.PlatformDoc.{PlatformDoc}
use Rattle.line_ranks.specs.declared.user.Consumer.{Consumer}
use Rattle.library_calls.specs.Calls.{places, is_looped, caller_fault, looped, loop_fault, choice_by}
use Rattle.library_calls.specs.declared.caller.WithCalls.{WithCalls}
use Rattle.library_choice.specs.Closure.{known, classes_of, instances, are_few, setting_of, is_library}
use Rattle.library_choice.specs.Choices.{names, takes, served_fault, instance_fault, line_fault, class_fault, path_fault, classes_fault, callers, reach, choice_of, choice_of_found, choice_for, choice}
use Rattle.library_choice.specs.Lines.{covers, chosen_line, Setting}
use Rattle.named_faults.specs.Named.{IsNamed, FailsByName}
use Rattle.named_faults.proofs.NamedLemmas.{if_named, if_fails, or_else_named, or_fault_fails, fault_unless_named}
use Rattle.named_faults.proofs.CodeLemmas.{class_not_served_named, class_unresolved_named, constructor_loop_named, too_many_instances_named, type_not_served_named}
use Rattle.text_faults.proofs.PartLemmas.{first_fault_named}

-- Calls.

caller_named : (found : Option WithCalls) → IsNamed (caller_fault found)
caller_named None = record {}
caller_named (Some caller) = constructor_loop_named

looped_named : (cs : List WithCalls) (found : Option ℕ) → IsNamed (looped cs found)
looped_named cs None = record {}
looped_named cs (Some x) = caller_named (slice_get cs x)

loop_named : (rows : List (List Bool)) (cs : List WithCalls) → IsNamed (loop_fault rows cs)
unfolding loop_fault
loop_named rows cs = looped_named cs (find (is_looped rows (places cs)) (places cs))

calls_fail : (found : List (List ℕ)) (cs : List WithCalls) (rows : List (List Bool)) → FailsByName (choice_by found cs rows)
unfolding choice_by
calls_fail found cs rows = or_fault_fails (loop_fault rows cs) _ (loop_named rows cs) (λ e. record {})

-- Classes.

served_named : (user : Consumer) (line : LibraryLine) (class : List ℕ) (serves : List Served) → IsNamed (served_fault user line class serves)
unfolding served_fault
served_named user line class serves =
    if_named (list_any (names class) serves) _ _
    (fault_unless_named (list_any (λ served. names class served && takes user served) serves) (fault_of TYPE_NOT_SERVED line.at class) type_not_served_named) class_not_served_named

instance_named : (user : Consumer) (line : LibraryLine) (class : List ℕ) (found : Option InfDoc) → IsNamed (instance_fault user line class found)
instance_named user line class None = record {}
instance_named user line class (Some inf) = served_named user line class inf.serves

line_named : (s : Setting) (class : Named) (found : Option LibraryLine) → IsNamed (line_fault s class found)
line_named s class None = class_unresolved_named
line_named s class (Some line) = instance_named s.user line class.name (known s.infs line.instance)

class_named : (s : Setting) (class : Named) → IsNamed (class_fault s class)
unfolding class_fault
class_named s class = if_named (covers class.arch s.user.arch) _ _ (line_named s class (chosen_line s class.name)) (record {})

path_named : (s : Setting) (path : List ℕ) → IsNamed (path_fault s path)
path_named s path = first_fault_named (class_fault s) (classes_of (known s.infs path)) (class_named s)

classes_named : (s : Setting) (inf : InfDoc) (found : List (List ℕ)) → IsNamed (classes_fault s inf found)
unfolding classes_fault
classes_named s inf found =
    or_else_named (first_fault (class_fault s) inf.classes) (first_fault (path_fault s) found)
    (first_fault_named (class_fault s) inf.classes (class_named s)) (first_fault_named (path_fault s) found (path_named s))

-- Choices.

of_fails : (s : Setting) (found : List (List ℕ)) → FailsByName (choice_of s found)
unfolding choice_of
of_fails s found = calls_fail found (callers s.infs found) (reach s (callers s.infs found))

found_fails : (user : Module) (s : Setting) (inf : InfDoc) → FailsByName (choice_of_found user s inf)
unfolding choice_of_found
found_fails user s inf =
    if_fails (are_few s inf) _ _
    (or_fault_fails (classes_fault s inf (instances s inf)) (choice_of s (instances s inf)) (classes_named s inf (instances s inf)) (λ e. of_fails s (instances s inf))) too_many_instances_named

for_fails : (user : Module) (platform : PlatformDoc) (infs : List InfDoc) (found : Option InfDoc) → FailsByName (choice_for user platform infs found)
for_fails user platform infs None = record {}
for_fails user platform infs (Some inf) = if_fails (is_library inf) _ _ (record {}) (found_fails user (setting_of user platform infs inf) inf)

pub choice_fails : (user : Module) (platform : PlatformDoc) (infs : List InfDoc) → FailsByName (choice user platform infs)
unfolding choice
choice_fails user platform infs = for_fails user platform infs (known infs user.inf)

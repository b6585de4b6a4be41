-- What is chosen for a module: its instances, and the constructors and destructors that they have
-- called (EDK II Build specification, library constructors and destructors).
use Rattle.std.specs.Prelude.{ℕ, Bool, true, false, ◌&&◌, ◌||◌, ◌==◌, not, nat_eq, if◌then◌else◌, List, [], ◌∷◌, ◌++◌, length, map, Option, Some, None, Result, Ok, Err, codes}
use Rattle.std.specs.List.{filter_map, list_any}
use Rattle.std.specs.Cmp.Lexicographic.{pointwise}
use Rattle.build_base.specs.First.{or_else, or_fault}
use Rattle.build_base.specs.FaultText.{fault_of}
use Rattle.build_base.specs.declared.fault.Fault.{Fault}
use Rattle.build_base.specs.declared.fault.Place.{Place}
use Rattle.meta_lexer.specs.Faults.{first_fault}
use Rattle.doc_types.specs.declared.choice.Call.{Call}
use Rattle.doc_types.specs.declared.choice.Choice.{Choice}
use Rattle.doc_types.specs.declared.choice.Module.{Module}
use Rattle.doc_types.specs.declared.module.InfDoc.{InfDoc}
use Rattle.doc_types.specs.declared.module.Named.{Named}
use Rattle.doc_types.specs.declared.module.Served.{Served}
use Rattle.doc_types.specs.declared.module_type.ModuleType.{ModuleType}
use Rattle.doc_types.specs.declared.module_type.ModuleType.TheVariants.{UserDefined, HostApplication}
use Rattle.doc_types.specs.declared.platform.LibraryLine.{LibraryLine}
use Rattle.doc_types.specs.declared.platform.PlatformDoc.{PlatformDoc}
use Rattle.library_calls.specs.declared.caller.WithCalls.{WithCalls}
unfoldable pub use Rattle.library_calls.specs.Calls.{before, loop_fault, choice_in, choice_by}
pub use Rattle.library_calls.specs.Calls.{places, is_looped, caller_fault, looped, constructors_in, destructors_in, constructors_at, destructors_at}
use Rattle.line_ranks.specs.declared.user.Consumer.{Consumer}
use Rattle.library_choice.specs.Closure.{known, classes_of, next, instances, are_few, setting_of, is_library, same_path}
use Rattle.library_choice.specs.Found.{is_in, ends}
use Rattle.library_choice.specs.Lines.{covers, same_type, chosen_line, Setting}
use Rattle.build_base.specs.FaultCodes.{CLASS_NOT_SERVED, CLASS_UNRESOLVED, TOO_MANY_INSTANCES, TYPE_NOT_SERVED}

-- modules of these types may use a library of every type
abbrev pub is_free : ModuleType → Bool
is_free UserDefined = true
is_free HostApplication = true
is_free kind = false

-- no types are all
abbrev pub takes : Consumer → Served → Bool
takes user served =
    is_free user.kind || length served.types == 0
    || list_any (λ t. same_type t user.kind) served.types

abbrev pub names : List ℕ → Served → Bool
names class served = pointwise nat_eq served.name class

-- a LIBRARY_CLASS must name the class, and one that names it must take the module's type
unfoldable pub served_fault : Consumer → LibraryLine → List ℕ → List Served → Option Fault
served_fault user line class serves =
    if list_any (names class) serves
    then (if list_any (λ served. names class served && takes user served) serves then None
    else Some (fault_of TYPE_NOT_SERVED line.at class))
    else Some (fault_of CLASS_NOT_SERVED line.at class)

abbrev pub instance_fault : Consumer → LibraryLine → List ℕ → Option InfDoc → Option Fault
instance_fault user line class None = None
instance_fault user line class (Some inf) = served_fault user line class inf.serves

abbrev pub line_fault : Setting → Named → Option LibraryLine → Option Fault
line_fault s class None = Some (fault_of CLASS_UNRESOLVED class.at class.name)
line_fault s class (Some line) = instance_fault s.user line class.name (known s.infs line.instance)

unfoldable pub class_fault : Setting → Named → Option Fault
class_fault s class =
    if covers class.arch s.user.arch then line_fault s class (chosen_line s class.name) else None

abbrev pub path_fault : Setting → List ℕ → Option Fault
path_fault s path = first_fault (class_fault s) (classes_of (known s.infs path))

-- class by class: the module's, and then those of each instance
unfoldable pub classes_fault : Setting → InfDoc → List (List ℕ) → Option Fault
classes_fault s inf found =
    or_else (first_fault (class_fault s) inf.classes)
    (first_fault (path_fault s) found)

abbrev pub has_call : InfDoc → Bool
has_call inf = not (length inf.constructors == 0) || not (length inf.destructors == 0)

abbrev pub first_place : Place → List Named → Place
first_place at [] = at
first_place at (call ∷ calls) = call.at

abbrev pub call_of : List ℕ → Named → Call
call_of inf named = record { inf = inf; name = named.name }

-- an instance that has something called; its place is its first constructor's, else its first
-- destructor's
unfoldable pub caller_of : InfDoc → WithCalls
caller_of inf =
    record {
      inf = inf.at.path;
      at = first_place inf.at (inf.constructors ++ inf.destructors);
      constructors = map (call_of inf.at.path) inf.constructors;
      destructors = map (call_of inf.at.path) inf.destructors;
    }

abbrev pub caller_in : Option InfDoc → Option WithCalls
caller_in None = None
caller_in (Some inf) = if has_call inf then Some (caller_of inf) else None

abbrev pub callers : List InfDoc → List (List ℕ) → List WithCalls
callers infs found = filter_map (λ path. caller_in (known infs path)) found

-- a walk of one or more classes leads from y to x; none is longer than there are instances
unfoldable pub leads : Setting → List ℕ → List ℕ → Bool
leads s y x = is_in same_path (ends (next s) (next s y) 1025) x

-- row y says of each x whether y leads to it
unfoldable pub reach : Setting → List WithCalls → List (List Bool)
reach s cs = map (λ (y : WithCalls). map (λ (x : WithCalls). leads s y.inf x.inf) cs) cs

unfoldable pub choice_of : Setting → List (List ℕ) → Result Choice Fault
choice_of s found = choice_by found (callers s.infs found) (reach s (callers s.infs found))

-- more than 1,024 instances come first, then the classes, then calls that need each other
unfoldable pub choice_of_found : Module → Setting → InfDoc → Result Choice Fault
choice_of_found user s inf =
    if are_few s inf then or_fault (classes_fault s inf (instances s inf))
    (choice_of s (instances s inf))
    else Err (fault_of TOO_MANY_INSTANCES (record { path = user.inf; line = 0 }) (codes "1025"))

abbrev pub empty_choice : Choice
empty_choice = record { library = true; instances = []; constructors = []; destructors = [] }

abbrev pub choice_for : Module → PlatformDoc → List InfDoc → Option InfDoc → Result Choice Fault
choice_for user platform infs None = Ok empty_choice
choice_for user platform infs (Some inf) =
    if is_library inf then Ok empty_choice
    else choice_of_found user (setting_of user platform infs inf) inf

unfoldable pub choice : Module → PlatformDoc → List InfDoc → Result Choice Fault
choice user platform infs = choice_for user platform infs (known infs user.inf)

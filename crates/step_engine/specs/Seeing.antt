-- What was got of a file, with its bytes shared.
use Rattle.build_base.specs.declared.outside.Got.{Got}
use Rattle.build_base.specs.declared.outside.Got.TheVariants.{File as GotFile, Absent as GotAbsent, TooLong as GotTooLong}
use Rattle.step_engine.specs.declared.seen.SeenFile.{SeenFile}
use Rattle.step_engine.specs.declared.seen.SeenFile.TheVariants as seen

abbrev pub got_seen : SeenFile → Got
got_seen (seen.Bytes bytes) = GotFile bytes
got_seen seen.Absent = GotAbsent
got_seen seen.TooLong = GotTooLong

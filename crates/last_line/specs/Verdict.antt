-- The verdict of the last line. No reader of the event list needs this file.
use Rattle.layout.specs.Message as layout
use Rattle.last_line.specs.declared.Verdict.{Verdict}
use Rattle.last_line.specs.declared.Verdict.TheVariants.{Complete, Incomplete, Invalid}

-- the verdict; where a message is broken, its line doesn't say
abbrev pub verdict_in : Verdict → layout.Verdict
verdict_in Complete = layout.complete
verdict_in Incomplete = layout.incomplete
verdict_in Invalid = layout.broken_at 0

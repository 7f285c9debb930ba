-- What the answer of finding a run means: document 01's number and place, or the run.
-- Assumes nothing.
use Rattle.refusal.specs.declared.Fault.{Fault}
use Rattle.std.specs.Prelude.{Result, Ok, Err}
use Rattle.refusal.specs.Answer.{Answer, gives}
use Rattle.refusal.specs.Meaning.{fault_of}
use Rattle.ump.specs.Runs.{Run, of_dump, of_edit}
use Rattle.look.specs.declared.Found.{Found}
use Rattle.look.specs.declared.Found.TheVariants as found

abbrev pub found_run : Found → Run
found_run (found.Before part) = of_dump 0 part.start part.end
found_run (found.Within part) = of_edit 0 part.start part.end
found_run (found.Behind part) = of_dump 1 part.start part.end

abbrev pub run_meaning : Result Found Fault → Answer Run
run_meaning (Ok stands) = gives (found_run stands)
run_meaning (Err fault) = fault_of fault

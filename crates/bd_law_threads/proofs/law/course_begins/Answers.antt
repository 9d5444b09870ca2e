use Rattle.bd_law_threads.proofs.Arriving.{course_begins}
use Rattle.bd_law_threads.proofs.law.course_begins.Goals as goal

pub returns : goal.returns
returns c = course_begins

-- Judge's answer as document 01's numbers and values, and what is found of the task asked for.
use Rattle.std.specs.Prelude.{ℕ, Result, Ok, Err}
use Rattle.model.specs.Entries.{Answer, Asked, task_is, no_task}
use Rattle.records.specs.declared.task.ReadableTask.{ReadableTask}
use Rattle.reader.specs.Answer.{number_of, place_of}
use Rattle.entries.specs.declared.SetVerdict.{SetVerdict}
use Rattle.entries.specs.declared.ask.Unfound.{Unfound}
use Rattle.entries.specs.declared.ask.Unfound.TheVariants.{Unread, NoTask}

-- number, place, x in ticks and W in units of work, and the speed used
unfoldable pub judge_gives : SetVerdict → Answer
judge_gives r = record { number = r.number; place = r.place; x = r.x.0; w = r.w.0; p = r.p; q = r.q }

-- 2 to 5 where the set is refused; "6: no task of that number"
abbrev pub unfound_number : Unfound → ℕ
unfound_number (Unread refusal) = number_of refusal
unfound_number NoTask = 6

abbrev pub unfound_place : Unfound → ℕ
unfound_place (Unread refusal) = place_of refusal
unfound_place NoTask = 0

-- the task that was asked for, or the refusal that comes before it
abbrev pub asked_of : Result ReadableTask Unfound → Asked
asked_of (Ok task) = task_is task.place
asked_of (Err unfound) = no_task (unfound_number unfound) (unfound_place unfound)

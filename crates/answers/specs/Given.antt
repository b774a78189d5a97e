-- The answers of the code on one task as document 01's numbers and values.
use Rattle.std.specs.Prelude.{ℕ, List}
use Rattle.model.specs.Entries.{Figures, Demanded, Layered}
use Rattle.answers.specs.declared.TaskFigures.{TaskFigures}
use Rattle.answers.specs.declared.TaskDemand.{TaskDemand}
use Rattle.answers.specs.declared.TaskLayers.{TaskLayers}

-- number, place, length and volume in time units
unfoldable pub figures_give : TaskFigures → Figures
figures_give r = record { number = r.number; place = r.place; length = r.length.0; volume = r.volume.0 }

-- number, place and units of work
unfoldable pub demand_gives : TaskDemand → Demanded
demand_gives r = record { number = r.number; place = r.place; work = r.work.0 }

-- number, place, the count of pairs, and the lent table as it then stands
unfoldable pub layers_give : TaskLayers → List ℕ → Layered
layers_give r table = record { number = r.number; place = r.place; pairs = r.pairs; table = table }

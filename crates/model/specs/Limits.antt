-- The limits of document 01, each number once. The code has each as a constant of the same name (`src/limits.rt`).
use Rattle.std.specs.Prelude.{ℕ, ◌*◌}

-- "mill 1..40"
abbrev pub most_mills : ℕ
most_mills = 40

-- "A set has at most 32 tasks."
abbrev pub most_tasks : ℕ
most_tasks = 32

-- "vertices n, 1..64"
abbrev pub most_vertices : ℕ
most_vertices = 64

-- "edges 0..256"
abbrev pub most_edges : ℕ
most_edges = 256

-- "job time 0..1,000", with request 2: "Raise the job time field's upper end to 10,000, the longest deadline"
abbrev pub longest_job : ℕ
longest_job = 10000

-- "period 1..10,000"; no deadline is beyond its period
abbrev pub longest_period : ℕ
longest_period = 10000

-- "m outside 1..16"
abbrev pub most_processors : ℕ
most_processors = 16

-- "A speed is p/q with 1 <= p <= q <= 31.": the largest p and q
abbrev pub largest_part : ℕ
largest_part = 31

-- "7: H > 50,000 (judge)"
abbrev pub most_cycle : ℕ
most_cycle = 50000

-- "x > 1,550,000"
abbrev pub most_tick : ℕ
most_tick = 1550000

-- "a set of at most 65,536 bytes", for the program
abbrev pub most_bytes : ℕ
most_bytes = 65536

-- no task has more volume or length than all its jobs one after another
abbrev pub largest_volume : ℕ
largest_volume = most_vertices * longest_job

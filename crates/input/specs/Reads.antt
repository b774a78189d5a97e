-- What a read of standard input says. One need not believe it to believe a promise on the bytes that were read.
use Rattle.std.specs.Prelude.{ℕ, ◌≡◌, ◌≢◌, Option, Some, None, Result, Ok, Err, IsSomeAnd}
use Rattle.std.specs.declared.io.Error.{Error}
use Rattle.std.specs.declared.io.ErrorKind.TheVariants.{Interrupted}
use Rattle.std.specs.IoError.{error_kind}

-- a count is what came, no byte the end alone; a failure is one unless a signal interrupted the read, which then says nothing
abbrev pub Means : Result ℕ Error → Option (Result ℕ Error) → Type 0
Means (Ok n) said = said ≡ Some (Ok n)
Means (Err e) said =
    (error_kind e ≡ Interrupted → said ≡ None) × (error_kind e ≢ Interrupted → said ≡ Some (Err e))

-- the reason of a failed read: there is one, and it is not that of an interrupted read
abbrev pub Failed : Option Error → Type 0
Failed reason = IsSomeAnd reason (λ e. error_kind e ≢ Interrupted)

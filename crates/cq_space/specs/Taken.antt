-- What a sink takes.
use Rattle.std.specs.Prelude.{◌≡◌, ℕ, ◌<◌, ◌≤◌, List, length, take, Option}
use Rattle.std.specs.Io.KnownBytes.{append_known}

-- the first n of the bytes were taken, and at least one
pub record Takes (old new : Option (List ℕ)) (bytes : List ℕ) (n : ℕ) : Type 0 where
  pub some : 0 < n
  pub within : n ≤ length bytes
  pub taken : new ≡ append_known old (take n bytes)

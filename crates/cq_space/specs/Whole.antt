-- What whole reads, writes and puts answer, and what stands afterwards.
use Rattle.std.specs.Prelude.{◌≡◌, ◌⊎◌, ℕ, ◌<◌, ◌≤◌, List, length, take, Result, Option, Vec, vec_len, IfOk, OnOk, OnErr, IsErrOf, IfSome, Some}
use Rattle.std.specs.FinMap.{get}
use Rattle.std.specs.Io.KnownBytes.{append_known}
use Rattle.std.specs.declared.alloc.Global.{Global}
use Rattle.cq_space.specs.Causes.{Rose, HasCause}
use Rattle.cq_space.specs.Space.{Space, Closed, Lacks, bytes_of, replaced, IsCutAt}
use Rattle.cq_space.specs.declared.whole.ReadRefusal.{ReadRefusal}
use Rattle.cq_space.specs.declared.whole.ReadRefusal.TheVariants.{Missing, Fault, Long}
use Rattle.cq_space.specs.declared.whole.WriteFault.{WriteFault}

-- a name was read whole, or refused for its cause
pub record ReadsWhole (old new : Space) (name : List ℕ) (limit : ℕ) (result : Result (Vec ℕ Global) ReadRefusal) :
    Type 0 where
  -- Ok has all the bytes of the name, at most `limit`
  pub whole : IfOk result (λ v. IfSome old.told (λ m. get m name ≡ Some v.items))
  pub short : IfOk result (λ v. vec_len v ≤ limit)
  -- Missing comes only where told contents lack the name
  pub missing : IsErrOf result Missing → Lacks old.told name
  -- where they lack it, nothing but a fault comes in its place
  pub absent : Lacks old.told name → IsErrOf result Missing ⊎ IsErrOf result Fault
  -- Fault comes only where the count rose, and with every other answer the count is as before
  pub fault : IsErrOf result Fault → Rose old.faults new.faults
  pub uncounted : IsErrOf result Fault ⊎ (new.faults ≡ old.faults)
  -- Long names the limit, and comes only where the name has more bytes
  pub long : (n : ℕ) → IsErrOf result (Long n) → (n ≡ limit) × IfSome old.told (λ m. limit < length (bytes_of m name))
  -- after every answer
  pub closed : new.mode ≡ Closed
  pub told : new.told ≡ old.told
  pub later : old.faults ≤ new.faults

-- a name was written whole, or its bytes are as before or cut
pub record WritesWhole (old new : Space) (name bytes : List ℕ) (result : Result (Unit {0}) WriteFault) : Type 0 where
  pub ok : OnOk result (new.told ≡ replaced name bytes old.told)
  pub err : OnErr result (IsCutAt name bytes old.told new.told)
  pub cause : HasCause old.faults new.faults result
  pub closed : new.mode ≡ Closed

-- the bytes were put into a sink, or a front of them was
pub record PutsAll (old new : Option (List ℕ)) (faults now : ℕ) (bytes : List ℕ)
    (result : Result (Unit {0}) WriteFault) : Type 0 where
  pub ok : OnOk result (new ≡ append_known old bytes)
  pub err : OnErr result ((n : ℕ) × (new ≡ append_known old (take n bytes)))
  pub cause : HasCause faults now result

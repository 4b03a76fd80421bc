-- What is known of the fault that a refusal names.
use Rattle.cq_pcap.proofs.Terms.{subst, ◌≡◌, Option, Some, IfErr-weaker, IfSome, PcapRefusal, NoMemory, fault_of}

-- what is known of a refusal is known of the fault that it names
pub named_fault : (P : PcapRefusal → Type 0) (refusal : PcapRefusal) → P refusal → IfSome (fault_of refusal) P
named_fault P NoMemory h = tt
named_fault P _ h = h

-- what is known of a thing that may have been found
pub some_is : {A : Type 0} (found : Option A) (x : A) (P : A → Type 0) → found ≡ Some x → IfSome found P → P x
some_is {A = A} found x P e h = let Q : Option A → Type 0 = λ f. IfSome f P in subst Q e h

pub ruleset refusal_steps = (IfErr-weaker, named_fault, some_is)

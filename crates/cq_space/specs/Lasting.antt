-- Only proofs use this.
-- What the fakes keep beside their meaning stays over calls one after another.
use Rattle.std.proofs.Common.{◌≡◌, ◌⊎◌, ◌∙◌, ℕ, ◌≤◌, inl, inr, refl, arith}
use Rattle.cq_space.specs.Causes.{Rose}
use Rattle.cq_space.specs.Failing.{Lasts}
use Rattle.cq_space.specs.MemSpace.{KeepsCuts, IsUnbegun}
use Rattle.cq_space.specs.MemTaken.{KeepsCut}

rose_on : (a b c : ℕ) → b ≤ c → Rose a b → Rose a c
rose_on a b c h r = omega arith

rose_later : (a b c : ℕ) → a ≤ b → Rose b c → Rose a c
rose_later a b c h r = omega arith

counted_both : (s t u a b c : ℕ) → a ≤ b → b ≤ c → (t ≡ s) ⊎ Rose a b → (u ≡ t) ⊎ Rose b c → (u ≡ s) ⊎ Rose a c
counted_both s t u a b c h k (inl e) (inl f) = inl (f ∙ e)
counted_both s t u a b c h k (inl e) (inr r) = inr (rose_later a b c h r)
counted_both s t u a b c h k (inr r) _ = inr (rose_on a b c k r)

at_most : (a b c : ℕ) → a ≤ b → b ≤ c → a ≤ c
at_most a b c h k = omega arith

itself : (a : ℕ) → a ≤ a
itself a = omega arith

-- what files in memory keep lasts
pub cuts_last : Lasts KeepsCuts
cuts_last = record {
  none =
      λ s. record {
        read_cuts = refl;
        write_cuts = refl;
        failing = refl;
        most = refl;
        made = itself s.calls.made;
        faults = itself s.faults;
        later = itself s.starved;
        counted = inl refl;
      };
  both = λ s t u h k. record {
    read_cuts = k.read_cuts ∙ h.read_cuts;
    write_cuts = k.write_cuts ∙ h.write_cuts;
    failing = k.failing ∙ h.failing;
    most = k.most ∙ h.most;
    made = at_most s.calls.made t.calls.made u.calls.made h.made k.made;
    faults = at_most s.faults t.faults u.faults h.faults k.faults;
    later = at_most s.starved t.starved u.starved h.later k.later;
    counted =
        counted_both s.starved t.starved u.starved s.faults t.faults u.faults h.faults k.faults h.counted k.counted;
  };
}

-- so does what they keep where no writing is begun
pub unbegun_lasts : Lasts IsUnbegun
unbegun_lasts = record {
  none = λ s. record { kept = cuts_last.none s; begun = refl };
  both = λ s t u h k. record { kept = cuts_last.both s t u h.kept k.kept; begun = k.begun ∙ h.begun };
}

-- and what a sink in memory keeps
pub cut_lasts : Lasts KeepsCut
cut_lasts = record {
  none = λ s. record { cut = refl; faults = itself s.faults; later = itself s.starved; counted = inl refl };
  both = λ s t u h k. record {
    cut = k.cut ∙ h.cut;
    faults = at_most s.faults t.faults u.faults h.faults k.faults;
    later = at_most s.starved t.starved u.starved h.later k.later;
    counted =
        counted_both s.starved t.starved u.starved s.faults t.faults u.faults h.faults k.faults h.counted k.counted;
  };
}

-- What is reached by proposals. At the beginning the inputs that wait are those with an offer. Whoever stands in the
-- list of free inputs is free, and where the list is empty nobody is, so what is held is the matching best for the
-- inputs.
use Rattle.cq_pair.proofs.Terms.{rules, ℕ, ◌≡◌, ◌+◌, ◌*◌, ◌<◌, ◌≤◌, [], ◌∷◌, Option, None, length, get_or, replicate, ◌∙◌, ap, arith, common_steps, range_with_len, length-replicate, filter_passes, Orders, AreOffers, ports, IsInputBest, proposals, start, IsFree, IsQuiescent, IsSound, is_free, free_inputs, next_output, propose, matching_of, input_in_range, output_in_range, inputs_at_most, sound-start, sound-after, held-start, next_output-offered, nobody, free_if, free_only_if, matching-of, matching_of-is, events_at_most, events-quiet, Progress, IsReached, ShowsWaiting, has_number, has_kept}
use Rattle.cq_prefs.proofs.Quiet.{input_best-quiet}
use Rattle.cq_pair.proofs.Waiting.{waiting-free, waiting-first}

module _ (o : Orders) (v : AreOffers o) (c : Progress) (r : IsReached o c) where
  pub sound-reached : IsSound o c.state
  sound-reached = rw r.state (sound-after o v r.events r.are_events)

  -- the numbers of ports
  pub free_known : (i : ℕ) → IsFree o c.state i → i < ports o
  free_known i f = input_in_range o i _ (next_output-offered o v c.state i f.left)

  pub asked_known : (i : ℕ) → IsFree o c.state i → next_output o c.state i < ports o
  asked_known i f = output_in_range o v i _ (next_output-offered o v c.state i f.left)

  pub places_known : length c.state.places ≡ ports o
  places_known = sound-reached.inputs

  pub made-most : c.made ≤ ports o * ports o
  made-most = rw r.made (events_at_most o v r.events r.are_events)

  pub waiting-reached : ShowsWaiting o c
  waiting-reached = grind (arith, common_steps, waiting-free)

  -- ## Who is shown as free

  pub free-shown : (k : ℕ) → k < length c.free → IsFree o c.state (get_or c.free k 0)
  unfolding free_inputs
  free-shown k inside = search (arith, rules, filter_passes (is_free o c.state), free_if, sound-reached)

  quiet-reached : c.free ≡ [] → IsQuiescent o c.state
  unfolding free_inputs
  quiet-reached empty i f =
      let there = has_kept (is_free o c.state) (range_with_len 0 (ports o)) i in
      search (arith, rules, free_known, has_number, there, free_only_if)

  pub best-reached : c.free ≡ [] → IsInputBest o c.matching × (c.made ≡ proposals o c.matching)
  best-reached empty = search (arith, rules, quiet-reached empty, input_best-quiet, events-quiet)

-- ## The beginning

matching-start : (o : Orders) → AreOffers o → replicate (ports o) None ≡ matching_of o (start o)
matching-start o v = matching_of-is o v (start o) (sound-start o v) (replicate (ports o) None)
    (length-replicate {A = Option ℕ} (ports o) None) (search (arith, rules, nobody))
    (search (arith, rules, output_in_range, v.shown_back, held-start, inputs_at_most))

pub reached-begin : (o : Orders) → AreOffers o → (c : Progress) → c.state ≡ start o →
    c.matching ≡ replicate (ports o) None → ShowsWaiting o c → c.made ≡ 0 → IsReached o c
reached-begin o v c state matching waiting made = grind (arith, common_steps, matching-start, waiting-free)

-- ## One proposal more

pub reached-step : (o : Orders) → AreOffers o → (c d : Progress) (i : ℕ) → IsReached o c → IsFree o c.state i →
    d.state ≡ propose o c.state i →
    d.matching ≡ matching_of o (propose o c.state i) → ShowsWaiting o d → d.made ≡ c.made + 1 → IsReached o d
reached-step o v c d i r f state matching waiting made =
    record {
      events = i ∷ r.events;
      are_events = search (rules);
      state = search (rules);
      matching = search (rules);
      free = search (rules, waiting-free);
      made = omega arith;
    }

pub size_reached : (o : Orders) (c : Progress) → AreOffers o → IsReached o c → length c.matching ≡ ports o
size_reached o c v r = ap length r.matching ∙ (matching-of o v c.state).size

pub ruleset asked_steps = (inputs_at_most, next_output-offered, asked_known, free_known, places_known, sound-reached)

pub ruleset begin_steps = (reached-begin, waiting-first)

-- What judging asks of each of its steps, and what it gives, of a state in range and of this shape, of which the cells
-- were found. A name and its found cell have one input, one output and one key. So lists, buffers and departures stand
-- in order by the one exactly where they do by the other, and so for levels and floors; the list of an input are the
-- found cells of that input, in their order, so as many stand ahead of a cell by the one as by the other, and its
-- cushion is counted among all buffered cells; and what is named is the same. The clause of flows is said of found
-- cells: it holds where of any two names of one flow the one that arrived first leaves first. What a sound state comes
-- to is said of found cells too. Where a step of judging fails it names the first clause that fails, since those before
-- it are known; and a state is sound of which all are known.
use Rattle.cq_resume.proofs.Terms.{common_steps, arith, rules, ◌≡◌, ◌<◌, ◌↔◌, ◌⊎◌, eqb, Bool, true, false, List, [], length, map, refl, ◌∙◌, ℕ, ap, All, IsPermutation, filter, AllByRecursion, AllZip, list_any-IsPermutation, sum_by-IsPermutation, Arrival, Queued, IsTally, input_told, AreFound, IsWholePacket, PacketsStand, TalliesUp, has_name, names_of, IsFound, AllNamed, AreWholePackets, NoneNamed, HasLimit, Switch, is_named, named_in, packet_before, buffer_told, fabric_told, Gone, Name, Tally, State, length-filter, figures_at_input, Found, Seen, ◌++◌, get_or, ◌≤◌, AllPairs, map-append, All-permutation, IsPermutation-sym, IsBefore, FlowsStand, IsGone, IsNameBefore, IsTold, InOneFlow, LeavesEarlier, sent_name, waiting_name, IsFoundBefore, IsListedBefore, IsNoLaterInput, IsGoneBefore, IsTimely, StandsBelow, StandBelow, AreOrdered, KeepArrivalOrder, OfOneFlow, AreBelowFloors, IsBelowFloor, StandInOrder, is_ahead, queued_in, output_of, Named, Sent, All-from_recursion, recursion_from_All, machines_of, Some, ◌+◌, filter_map, slice_get, cases_lt, get_or_past, map-id, get_or-map-range_with_len, length-map-range_with_len, is_for, cushion_of, input, SlackStands, cushion_in, HaveSlack, list_told, queued_of, length-map, Scheduled, AreCellsFor, AreNamesFor, HaveRoom, IsCellFor, IsFirstOfTwo, AreFoundIn, IsForPorts, Clause, IsFirstOf, IsFirstUnsound, IsSound, filter_none, ne_eqb, switch_of, CanTakeUp, ports_of, Tables, machine_of, IsInRange, IsNamed, below_more, all_weaker, all_both, all_front, all_back, of_images, Setup, has_at, has_there, all_of_has, all_has, has_all, has_left, has_right, has_cases, has_image, image_has, pair_of_has, all_from_has, Has, each_pair, most_ports, StateRefusal, err_from_is_err_and, kept_has}
use Rattle.cq_resume.proofs.Zipped.{zip_by, same_mapped, IsOf, names_zip, sifted, told_facts, zip_both, pairs_alike, all_alike, all_as, each_right, one_for}
use Rattle.cq_resume.proofs.Cut.{filter_both, listed_at}
use Rattle.cq_resume.specs.Sound.{IsBufferedBefore, IsSentBefore}

-- what holds of both sides of a clause alike holds of all items alike
all_same : {X : Type 0} (P Q : X → Type 0) → ((x : X) → P x ↔ Q x) → (xs : List X) → All P xs ↔ AllByRecursion Q xs
all_same P Q same xs = grind (arith, common_steps, all_weaker, recursion_from_All, All-from_recursion)

pub mapped_alike : {X Y : Type 0} (f g : X → Y) → ((x : X) → f x ≡ g x) → (xs : List X) → map f xs ≡ map g xs
mapped_alike {X} {Y} f g same xs = ap (λ (h : X → Y). map h xs) (λ k x. same x k)

-- ## Names in another order

has_moved : (xs ys : List Name) (m : Name) → IsPermutation ys xs → Has xs m → Has ys m
has_moved xs ys m back has = search (rules, all_has (Has ys) xs, All-permutation (Has ys) ys, has_all (Has ys) ys)

-- ## The fabric that is told of

-- what stands at a number, of what is told for each of so many
ruleset told_at = (get_or-map-range_with_len, length-map-range_with_len, get_or_past, cases_lt)

all_found : (came : List Arrival) (next : ℕ) (names : List Named) (found : List Queued) →
    AreFound came next names found → filter_map (queued_of came) names ≡ found
all_found came next names found zips = search (rules, same_mapped (IsTold came next) (queued_of came), map-id found)

-- ## Names that stand for those of a state

-- whole packets and what is left out are the same by both
module _ (w : Switch) (s : State) (names : List Name)
    (same : (a : Arrival) → is_named (named_in s) a ≡ has_name names a) where
  pub packets_alike : AreWholePackets w s ↔ PacketsStand w.limits s.head.next w.came names
  packets_alike = all_same (λ a. a.cell.id.index ≡ 0 → a.slot < s.head.next →
      AllNamed s (packet_before w.came s.head.next a)
      ⊎ (NoneNamed s (packet_before w.came s.head.next a) × HasLimit w.limits a.cell.output))
      (λ a. a.cell.id.index ≡ 0 → a.slot < s.head.next → IsWholePacket w.limits s.head.next w.came names a) (λ a.
      let alike = λ (t : Bool). all_same (λ b. is_named (named_in s) b ≡ t) (λ b. has_name names b ≡ t)
      (search (rules, same)) (packet_before w.came s.head.next a) in
      search (arith, rules, alike true, alike false)) w.came

  pub tally_is : (x : Tally) → length w.limits ≡ s.head.ports → TalliesUp w.limits s.head.next w.came names x →
      IsTally w s x
  tally_is x many up =
      let as_one : is_named (named_in s) ≡ has_name names = λ k a. same a k in search (arith, rules, as_one)

-- ## Of the cells that were found

module _ (w : Switch) (s : State) (f : Found) (found : IsFound w.came s f) where
  abbrev Told : Named → Queued → Type 0
  Told = IsTold w.came s.head.next

  abbrev Left : Sent → Gone → Type 0
  Left = IsGone w.came s.head.next

  -- the lines stand in order where the found cells do
  pub order_alike : StandInOrder w s ↔ AreOrdered f s.head.next s.moved
  order_alike =
      let lists = pairs_alike Told (λ c d. c.input ≤ d.input) IsNoLaterInput (search (arith, rules, told_facts))
      s.listed f.listed.items found.listed in
      let keys = pairs_alike Told
      (λ c d. c.input ≡ d.input → output_of w.came c ≡ output_of w.came d → is_ahead c d ≡ true) IsListedBefore
      (search (arith, rules, told_facts)) s.listed f.listed.items found.listed in
      let buffers = pairs_alike Told (IsBufferedBefore w.came) IsFoundBefore (search (arith, rules, told_facts))
      s.buffered f.buffered.items found.buffered in
      let sends = pairs_alike Left (IsSentBefore w.came) IsGoneBefore (search (arith, rules, told_facts))
      s.sent f.sent.items found.sent in
      let times = all_alike Left (λ d. (d.cell.slot ≤ d.slot) × (d.slot < s.head.next)) (IsTimely s.head.next)
      (search (arith, rules, told_facts)) s.sent f.sent.items found.sent in (
        (λ stand. search (arith, rules, recursion_from_All)),
        (λ is. search (arith, rules, All-from_recursion, sends.1 is.2.ordered, times.1 is.2.timely)),
      )

  -- ## Floors

  abbrev waiting : List Queued
  waiting = f.listed.items ++ f.buffered.items

  zips : AllZip Told (queued_in s) waiting
  zips = zip_both Told s.listed f.listed.items s.buffered f.buffered.items found.listed found.buffered

  module _ (setup : Setup) (own : w.machines ≡ machines_of setup) where
    pub floors_alike : AreBelowFloors w s ↔ StandBelow setup s.ranks f
    floors_alike =
        let both = all_as Told (IsBelowFloor w s) (StandsBelow setup s.ranks) (search (rules, told_facts)) (queued_in s)
        waiting zips in search (rules, both, all_both, all_front, all_back)

  -- ## Flows

  abbrev told : List Name
  told = map waiting_name waiting ++ map sent_name f.sent.items

  same : IsPermutation told f.names.items
  same = rw map-append found.same

  back : IsPermutation f.names.items told
  back = IsPermutation-sym told f.names.items same

  -- of two names of one flow the first arrived earlier
  abbrev Earlier : Name → Name → Type 0
  Earlier m n = InOneFlow m n → m.queued.key.slot < n.queued.key.slot

  abbrev Behind : Gone → Queued → Type 0
  Behind g q = Earlier (sent_name g) (waiting_name q)

  abbrev InTurn : Queued → Queued → Type 0
  InTurn q r = InOneFlow (waiting_name q) (waiting_name r) → q.key.slot < r.key.slot → IsBefore q r

  -- the fifth clause, of found cells
  record TurnsKept : Type 0 where
    pub sent : AllPairs (λ g h. Earlier (sent_name g) (sent_name h)) f.sent.items
    pub after : AllByRecursion (λ g. AllByRecursion (Behind g) waiting) f.sent.items
    pub queued : AllByRecursion (λ q. AllByRecursion (InTurn q) waiting) waiting

  turns_alike : KeepArrivalOrder w s ↔ TurnsKept
  turns_alike =
      let Turned : Named → Named → Type 0 = λ c d. OfOneFlow w.came c d → c.slot < d.slot in
      let Ahead : Named → Named → Type 0 = λ c d. OfOneFlow w.came c d → c.slot < d.slot → is_ahead c d ≡ true in
      let sends = pairs_alike Left (λ d e. Turned d.cell e.cell) (λ g h. Earlier (sent_name g) (sent_name h))
      (λ d e g h first second. grind (arith, common_steps, told_facts)) s.sent f.sent.items found.sent in
      let behind = all_as Left _ _ (λ d g gone. all_as Told (Turned d.cell) (Behind g) (λ c q is.
      grind (arith, common_steps, told_facts)) (queued_in s) waiting zips) s.sent f.sent.items found.sent in
      let turns = all_as Told _ _ (λ c q first. all_as Told (Ahead c) (InTurn q) (λ d r second.
      grind (arith, common_steps, told_facts)) (queued_in s) waiting zips) (queued_in s) waiting zips in
      ((λ keep. search (rules, sends.0, behind.0, turns.0)), (λ kept. search (rules, sends.1, behind.1, turns.1)))

  abbrev Rises : Name → Name → Type 0
  Rises m n = IsNameBefore m n × LeavesEarlier m n

  -- of two names one leaves earlier, or they are one
  in_turn : FlowsStand f.names.items → (m n : Name) → Has told m → Has told n → (Rises m n ⊎ Rises n m) ⊎ (m ≡ n)
  in_turn flows =
      let both = each_pair Rises f.names.items (λ i j d lt low. (found.ordered i j d lt low, flows i j d lt low)) in
      search (rules, pair_of_has Rises f.names.items, has_moved told f.names.items, back)

  turns_kept : AllPairs IsGoneBefore f.sent.items → FlowsStand f.names.items → TurnsKept
  turns_kept stand flows =
      let wait = λ (q : Queued) (has : Has waiting q). has_left _ _ _ (has_image waiting_name waiting q has) in
      let gone = λ (g : Gone) (has : Has f.sent.items g). has_right _ _ _ (has_image sent_name f.sent.items g has) in
      record {
        sent = λ i j d lt inside one.
            let turn = in_turn flows (sent_name (get_or f.sent.items i d)) (sent_name (get_or f.sent.items j d)) in
            grind (arith, common_steps, stand i j d, gone, has_at, turn);
        after = all_from_has _ _ (λ g first. all_from_has (Behind g) waiting (λ q has one.
            grind (arith, common_steps, in_turn flows (sent_name g) (waiting_name q) (gone g first) (wait q has))));
        queued = all_from_has _ _ (λ q first. all_from_has (InTurn q) waiting (λ r has one less.
            grind (arith, common_steps, in_turn flows (waiting_name q) (waiting_name r) (wait q first) (wait r has))));
      }

  leave : AllPairs IsGoneBefore f.sent.items → TurnsKept → (m n : Name) → Has told m → Has told n → IsNameBefore m n →
      LeavesEarlier m n
  leave stand kept m n first second before one =
      let Sent : Gone → Gone → Type 0 = λ g h. IsGoneBefore g h × Earlier (sent_name g) (sent_name h) in
      let sent = each_pair Sent f.sent.items (λ i j d lt inside. (stand i j d lt inside, kept.sent i j d lt inside)) in
      search (arith, rules, has_cases, image_has, pair_of_has Sent, all_of_has)

  -- the fifth clause, by the names that were found
  pub flows_alike : AllPairs IsGoneBefore f.sent.items → KeepArrivalOrder w s ↔ FlowsStand f.names.items
  flows_alike stand = (
    (λ keep i j d. search (arith, rules, leave, turns_alike, has_moved f.names.items, same, has_at, found.ordered i j)),
    (λ flows. turns_alike.1 (turns_kept stand flows)),
  )

  -- ## Slack

  pub list_is : (i : ℕ) → list_told w.came s i ≡ listed_at f.listed.items i
  list_is i = grind (arith, common_steps, sifted w.came i s.listed, all_found)

  pub buffer_is : (j : ℕ) → buffer_told w.came s j ≡ filter (is_for j) f.buffered.items
  buffer_is j = grind (arith, common_steps, all_found)

  module _ (inputs : AllByRecursion (λ q. q.key.input < s.head.ports) f.listed.items)
      (outputs : AllByRecursion (λ q. q.cell.output < s.head.ports) f.listed.items) where
    input_is : (i : ℕ) → input (fabric_told w.came s) i ≡ listed_at f.listed.items i
    unfolding fabric_told
    input_is i = search (arith, rules, told_at, list_is, filter_none, all_weaker, ne_eqb)

    cushion_is : (i ahead : ℕ) (c : Queued) → slice_get (listed_at f.listed.items i) ahead ≡ Some c →
        cushion_of (fabric_told w.came s) c ≡ length (cushion_in f.buffered.items c)
    unfolding fabric_told
    cushion_is i ahead c is =
        let has = kept_has _ f.listed.items c (has_there _ ahead c is) in
        let inside : c.cell.output < s.head.ports = all_of_has _ f.listed.items c outputs has.0 in
        let j = c.cell.output in
        let there = get_or-map-range_with_len (buffer_told w.came s) 0 s.head.ports j j [] inside (omega arith) in
        search (arith, rules, there, buffer_is, filter_both)

    pub slack_alike : HaveSlack w s ↔ SlackStands f.listed.items f.buffered.items
    slack_alike = (
      (λ have i. record { each = λ ahead c is. search (arith, rules, input_is i, cushion_is i ahead c, have i) }),
      (λ stands i ahead c is. grind (arith, common_steps, input_is i, cushion_is i ahead c, (stands i).each ahead c)),
    )

  -- ## Names

  named_zips : AllZip (IsOf w.came s.head.next) (named_in s) (names_of f.listed.items f.buffered.items f.sent.items)
  named_zips = names_zip w.came s f.listed.items f.buffered.items f.sent.items found.listed found.buffered found.sent

  one_named : (a : Arrival) → is_named (named_in s) a ≡ has_name f.names.items a
  one_named a = zip_by (IsOf w.came s.head.next) (λ cs ns. is_named cs a ≡ has_name ns a) refl (search (arith, rules))
      (named_in s) _ named_zips ∙ list_any-IsPermutation _ _ f.names.items found.same

  -- ## Figures

  pub figures_are : (i : ℕ) (x : Seen) → figures_at_input f.names.items i x ≡ input_told s i x
  figures_are i x =
      let passed = zip_by (IsOf w.came s.head.next) (λ (cs : List Named) (ns : List Name).
      length (filter (λ c. eqb c.input i) cs) ≡ length (filter (λ n. eqb n.queued.key.input i) ns)) refl
      (search (arith, rules)) (named_in s) _ named_zips in
      grind (arith, common_steps, length-filter, λ (g : Name → ℕ). sum_by-IsPermutation g _ f.names.items found.same)

-- ## The inputs that are named

pub inputs_low : (s : State) → IsInRange s → IsForPorts s.head.ports s
inputs_low s range =
    let sent = of_images (λ (d : Sent). d.cell) (λ (c : Named). c.input < s.head.ports) s.sent in
    grind (arith, common_steps, all_weaker, all_both, sent, s.listed)

-- ## One clause after another

module _ (w : Switch) (s : State) where
  -- the clauses before this one are known
  abbrev pub Before : ℕ → Type 0
  Before n = (k : ℕ) → k < n → Clause w s k

  two_refused : (n : ℕ) → Before n → (P Q : Type 0) → Clause w s n ↔ P → Clause w s (n + 1) ↔ Q → (r : StateRefusal) →
      IsFirstOfTwo n P Q r → IsFirstOf w s r
  two_refused n before P Q first second r why = grind (arith, common_steps, below_more (Clause w s) n before)

-- ## The found cells

module _ (t : Tables) (c : Scheduled) (s : State) (f : Found) (k : AreFoundIn t c s f) where
  -- as many ports as disciplines, and as many classes as rows
  pub ports_are : s.head.ports ≡ ports_of t.setup
  ports_are = k.shape.head.ports ∙ length-map t.setup.kinds (λ kind. machine_of kind t.setup.classes)

  pub few_ports : ports_of t.setup ≤ most_ports
  few_ports = let most = k.tables.setup.ports in omega arith

  pub cells_for : AreCellsFor t.setup f
  cells_for = search (arith, rules, each_right (IsTold c.came s.head.next) (IsCellFor t.setup), one_for, k.traffic)

  sent_for : AllByRecursion (λ g. IsCellFor t.setup g.queued) f.sent.items
  sent_for = search (arith, rules, each_right (IsGone c.came s.head.next), one_for, k.traffic, k.found.sent)

  -- a switch has 64 ports at most
  pub outputs_low : AllByRecursion (λ q. q.cell.output < most_ports) f.listed.items
  outputs_low = search (arith, rules, all_weaker (IsCellFor t.setup), few_ports, cells_for)

  -- ## In order

  -- what goes on needs of it
  pub can_take_up : AreOrdered f s.head.next s.moved → CanTakeUp s f
  can_take_up is = grind (arith, common_steps, ports_are, all_weaker, sent_for)

  -- ## Slack

  pub inputs_of_list : AllByRecursion (λ q. q.key.input < s.head.ports) f.listed.items
  inputs_of_list =
      let low = all_weaker (IsNamed s.head.ports) (λ (n : Named). n.input < s.head.ports) (search rules) s.listed in
      search (arith, rules, all_alike (IsTold c.came s.head.next) (λ (n : Named). n.input < s.head.ports), told_facts)

  outputs_inside : AllByRecursion (λ q. q.cell.output < s.head.ports) f.listed.items
  outputs_inside = search (arith, rules, all_weaker (IsCellFor t.setup), ports_are, cells_for)

  pub slack_is : HaveSlack (switch_of t c) s ↔ HaveRoom f
  slack_is = search (rules, slack_alike, inputs_of_list, outputs_inside)

  -- ## Packets

  pub packets_is : AreWholePackets (switch_of t c) s ↔ PacketsStand t.limits s.head.next c.came f.names.items
  packets_is = packets_alike (switch_of t c) s f.names.items (one_named (switch_of t c) s f k.found)

  pub tally_from : (x : Tally) → TalliesUp t.limits s.head.next c.came f.names.items x → IsTally (switch_of t c) s x
  tally_from =
      search (arith, rules, tally_is (switch_of t c) s f.names.items (one_named (switch_of t c) s f k.found), ports_are)

  -- ## Flows

  abbrev IsNameFor : Name → Type 0
  IsNameFor n = IsCellFor t.setup n.queued

  -- the output and the class of each name are in range
  pub names_for : AreNamesFor t.setup f
  names_for =
      let all : AllByRecursion IsNameFor (names_of f.listed.items f.buffered.items f.sent.items) =
      search (rules, all_both, of_images waiting_name IsNameFor, of_images sent_name IsNameFor, cells_for, sent_for) in
      let names = All-permutation IsNameFor _ f.names.items k.found.same (All-from_recursion IsNameFor _ all) in
      search (arith, rules, all_weaker IsNameFor, recursion_from_All IsNameFor f.names.items)

  pub flows_is : AreOrdered f s.head.next s.moved → KeepArrivalOrder (switch_of t c) s ↔ FlowsStand f.names.items
  flows_is is = flows_alike (switch_of t c) s f k.found is.2.ordered

  -- ## Clause by clause

  pub stand_refused : (r : StateRefusal) → IsFirstOfTwo 2 (AreOrdered f s.head.next s.moved) (HaveRoom f) r →
      IsFirstOf (switch_of t c) s r
  stand_refused = search (arith, rules, order_alike (switch_of t c) s f k.found, slack_is)

  module _ (stand : AreOrdered f s.head.next s.moved × HaveRoom f) where
    pub packets_refused : (PacketsStand t.limits s.head.next c.came f.names.items → ⊥) →
        IsFirstUnsound (switch_of t c) s 4
    packets_refused fails = search (arith, rules, order_alike (switch_of t c) s f k.found, slack_is, packets_is)

    module _ (packets : PacketsStand t.limits s.head.next c.came f.names.items) where
      packets_known : Before (switch_of t c) s 5
      packets_known = search (arith, rules, order_alike (switch_of t c) s f k.found, slack_is, packets_is)

      pub leave_refused : (r : StateRefusal) →
          IsFirstOfTwo 5 (FlowsStand f.names.items) (StandBelow t.setup s.ranks f) r → IsFirstOf (switch_of t c) s r
      leave_refused = search (rules, two_refused, packets_known, flows_is, floors_alike)

      pub is_sound : FlowsStand f.names.items × StandBelow t.setup s.ranks f → IsSound (switch_of t c) s
      is_sound leave =
          let floors = (floors_alike (switch_of t c) s f k.found t.setup refl).1 leave.1 in
          let order = (order_alike (switch_of t c) s f k.found).1 stand.0 in
          search (rules, order, slack_is.1 stand.1, packets_is.1 packets, (flows_is stand.0).1 leave.0, floors)

-- what is asked of a state whose cells are to be found
pub ruleset judge_finds = (length-map, inputs_low)

-- what a found state is judged by
pub ruleset judge_asks = (outputs_low, inputs_of_list, few_ports, names_for, ports_are, cells_for, err_from_is_err_and)

pub ruleset judge_steps = (judge_asks, stand_refused, packets_refused, leave_refused, can_take_up, is_sound)

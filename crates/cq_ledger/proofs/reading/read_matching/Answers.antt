use Rattle.cq_ledger.proofs.Terms.{rules, arith, matching_of-is, output_in_range, slots_items, State, inputs_at_most, Shows, position_held, add-one, ◌≡◌, get_or, holder, sym, ◌∙◌}
use Rattle.cq_ledger.proofs.Matched.{IsRead, k_free, reads_more, reads_skip, output_free}
use Rattle.cq_ledger.proofs.Views.{at_known}
use Rattle.cq_ledger.proofs.reading.read_matching.Goals as goal
use Rattle.cq_ledger.proofs.reading.read_matching.Goals.{After-word-word}

-- the word that is read is the position that the output holds, in any state that the words show
word : (c : After-word-word) (s : State) → Shows c.args.offers.now (slots_items c.args.closed.now.words) s →
    c.word-word.result ≡ position_held s c.loop-output.output
word c s shows = search (arith, rules, at_known, add-one)

pub bounds-inputs_of-word : goal.bounds-inputs_of-word
bounds-inputs_of-word c =
    let s = c.requires.shown in search (arith, rules, word, s.1.held_in c.loop-output.output)

pub offset_bounds-inputs_of-word : goal.offset_bounds-inputs_of-word
offset_bounds-inputs_of-word c =
    let s = c.requires.shown in search (arith, rules, word, s.1.held_in c.loop-output.output, inputs_at_most)

pub join-requires : goal.join-requires
join-requires c =
    let s = c.requires.shown in
    let read = c.loop-output.invariant s.0 s.1 s.2 in
    let is = word (goal.at.join-requires c).After-word-word s.0 s.2 in
    let input = get_or c.inputs_of.result.now c.word-word.result 0 in
    let holds : input ≡ holder c.args.offers.now s.0 c.loop-output.output = cc (c.inputs_of.ensures, is) in
    let free = k_free c.args.offers.now c.ports-ports.ensures.offers s.0 s.1 _ _ read (omega arith)
    (λ e. c.if-word-ports.true (is ∙ e ∙ sym c.ports-ports.ensures.value)) input holds in
    search (arith, rules, output_free)

pub loop-output-preserved : goal.loop-output-preserved
loop-output-preserved c = λ s w shows.
    let is = word (goal.at.loop-output-preserved c).After-word-word s shows in
    let read = c.loop-output.invariant s w shows in search (arith, rules, reads_more, reads_skip)

pub returns : goal.returns
returns c = search (arith, rules, IsRead, matching_of-is, c.loop-output.invariant, output_in_range)

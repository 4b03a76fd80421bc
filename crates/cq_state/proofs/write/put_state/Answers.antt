use Rattle.cq_state.proofs.Terms.{arith, rules, append-nil, ◌≡◌, ◌++◌, on_ok_weaker, state_text, state_lines, head_lines}
use Rattle.cq_state.proofs.Writing.{long_with, put_behind}
use Rattle.cq_state.proofs.write.put_state.Goals as goal

pub returns : goal.returns
unfolding state_lines
returns c =
    let all : c.put_numbers.new.text.items ≡ c.args.text.now.items ++ state_text c.args.state.now =
    put_behind _ c.put_head.new.text.items _ (head_lines c.args.state.now.head) _ (search (arith, rules))
    (search (arith, rules, put_behind, append-nil)) in
    record {
      text = on_ok_weaker c.enough.result (λ _. all) c.enough.ensures.short;
      short = search (arith, rules);
      long = rw (c.as_slice-7.ensures.value, all) at c.enough.ensures.long;
    }

-- with each part that is too long all of it is
pub returns-in_err-put_each-clause-long : goal.returns-in_err-put_each-clause-long
returns-in_err-put_each-clause-long c =
    let told = rw c.as_slice-3.ensures at (c.in_err-put_each.ensures {u = tt}).long in
    long_with _ c.args.state.now 2 _ c.put_head.new.text.items c.put_ranks.new.text.items (omega arith)
    (search (rules, told)) (search (arith, rules)) (search (arith, rules, put_behind, append-nil))

pub returns-in_err-put_each-2-clause-long : goal.returns-in_err-put_each-2-clause-long
returns-in_err-put_each-2-clause-long c =
    let told = rw c.as_slice-4.ensures at (c.in_err-put_each-2.ensures {u = tt}).long in
    long_with _ c.args.state.now 3 _ c.put_head.new.text.items c.put_each.new.text.items (omega arith)
    (search (rules, told)) (search (arith, rules)) (search (arith, rules, put_behind, append-nil))

pub returns-in_err-put_each-3-clause-long : goal.returns-in_err-put_each-3-clause-long
returns-in_err-put_each-3-clause-long c =
    let told = rw c.as_slice-5.ensures at (c.in_err-put_each-3.ensures {u = tt}).long in
    long_with _ c.args.state.now 4 _ c.put_head.new.text.items c.put_each-2.new.text.items (omega arith)
    (search (rules, told)) (search (arith, rules)) (search (arith, rules, put_behind, append-nil))

pub returns-in_err-put_each-4-clause-long : goal.returns-in_err-put_each-4-clause-long
returns-in_err-put_each-4-clause-long c =
    let told = rw c.as_slice-6.ensures at (c.in_err-put_each-4.ensures {u = tt}).long in
    long_with _ c.args.state.now 5 _ c.put_head.new.text.items c.put_each-3.new.text.items (omega arith)
    (search (rules, told)) (search (arith, rules)) (search (arith, rules, put_behind, append-nil))

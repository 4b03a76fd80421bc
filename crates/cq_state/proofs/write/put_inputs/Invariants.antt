use Rattle.cq_state.proofs.Terms.{◌≡◌, ◌++◌, drop, flat_map, numbered, input_line, spelled}
use Rattle.cq_state.proofs.write.put_inputs.Given as goal

-- what is put, with the lines that are still to come, is all
abbrev pub invariant-inputs : goal.invariant-inputs
invariant-inputs l = l.text.items ++ flat_map spelled (numbered input_line l.input (drop l.input l.inputs))
    ≡ l.fn.text.items ++ flat_map spelled (numbered input_line 0 l.inputs)

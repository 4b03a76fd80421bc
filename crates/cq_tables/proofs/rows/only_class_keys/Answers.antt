use Rattle.cq_tables.proofs.rows.only_class_keys.Goals as goal

pub returns-in-One-clause-refused : goal.returns-in-One-clause-refused
returns-in-One-clause-refused c = rw c.in-One.is c.only.ensures.refused

pub returns-in-Two-clause-refused : goal.returns-in-Two-clause-refused
returns-in-Two-clause-refused c = rw c.in-Two.is c.only-in-Two.ensures.refused

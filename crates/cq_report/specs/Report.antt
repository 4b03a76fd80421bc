-- The report of a run: its figures, each behind its name.
use Rattle.std.specs.Prelude.{ℕ, ◌+◌, ◌-◌, List, [], ◌∷◌, ◌++◌, Option, Some, codes}
use Rattle.std.specs.List.{flat_map}
use Rattle.cq_base.specs.Decimal.{field}
use Rattle.cq_base.specs.Texts.{line_of_words}
use Rattle.cq_base.specs.declared.figures.InputFigures.{InputFigures}
use Rattle.cq_base.specs.declared.figures.OutputFigures.{OutputFigures}
use Rattle.cq_base.specs.declared.figures.Figures.{Figures}
use Rattle.cq_ideal.specs.declared.refused.Refused.{Refused}

-- a name, and one blank behind it the figure, or `-` where there is none
unfoldable pub named : List ℕ → Option ℕ → List ℕ
named name n = name ++ 32 ∷ field n

-- an input, by its number
unfoldable pub input_line : ℕ → InputFigures → List ℕ
input_line i x =
    line_of_words (named (codes "input") (Some i) ∷ named (codes "cells") (Some x.cells)
    ∷ named (codes "longest") (Some x.longest) ∷ named (codes "slack") x.slack ∷ [])

-- an output, by its number, in a run of so many slots: it was idle in those in which it sent no cell
unfoldable pub output_line : ℕ → ℕ → OutputFigures → List ℕ
output_line slots j x =
    line_of_words (named (codes "output") (Some j) ∷ named (codes "cells") (Some x.cells)
    ∷ named (codes "idle") (Some (slots - x.cells)) ∷ named (codes "wait") x.wait ∷ [])

-- one line each, numbered in order from a first number on
abbrev pub numbered_lines : {X : Type 0} → (ℕ → X → List ℕ) → ℕ → List X → List ℕ
numbered_lines line n [] = []
numbered_lines line n (x ∷ xs) = line n x ++ numbered_lines line (n + 1) xs

-- the run as a whole
unfoldable pub run_lines : Figures → List ℕ
run_lines f =
    line_of_words (named (codes "slots") (Some f.slots) ∷ [])
    ++ line_of_words (named (codes "proposals") (Some f.proposals) ∷ [])
    ++ line_of_words (named (codes "most") (Some f.most) ∷ [])

-- an output that has a limit: how many packets were refused there, and how many cells they had
unfoldable pub limit_line : Refused → List ℕ
limit_line r =
    line_of_words (named (codes "limit") (Some r.output) ∷ named (codes "refused") (Some r.packets)
    ∷ named (codes "cells") (Some r.cells) ∷ [])

-- the run as a whole, then its inputs and its outputs, each numbered from 0
unfoldable pub report_of : Figures → List ℕ
report_of f = run_lines f ++ numbered_lines input_line 0 f.inputs ++ numbered_lines (output_line f.slots) 0 f.outputs

-- behind that what was refused, where outputs have limits
unfoldable pub report_with : Figures → List Refused → List ℕ
report_with f refused = report_of f ++ flat_map limit_line refused

-- The whole program, from the bytes of the sheet and of the records to the text.
use Rattle.std.specs.Prelude.{cond, List, ℕ, eqb, leb, length}
use Rattle.instance.specs.Sheet.{instance_of, refusal_of}
use Rattle.rules.specs.Costs.{opened}
use Rattle.rules.specs.Run.{Ran}
use Rattle.rules.specs.Calls.{cost_limit, run_of, report_of}
use Rattle.console.specs.Lines.{refused_line, text_of}

-- ---- how much is read

-- "over 40,960 bytes is refusal 11"
abbrev pub most_bytes : ℕ
most_bytes = 40_960

-- the program's buffers: one byte more than the longest sheet, and than the longest list, so that a longer one is seen to be longer
abbrev pub sheet_room : ℕ
sheet_room = 22_097

abbrev pub record_room : ℕ
record_room = 40_961

-- ---- what is printed

-- a run and the report of what it leaves
unfoldable pub ran_text : List ℕ → Ran → List ℕ
ran_text s q = text_of q.finished q.stuck q.refusal (report_of s cost_limit q.buffers)

-- the sheet's own refusals; "over 40,960 bytes is refusal 11"; otherwise the records are run on what opening leaves
unfoldable pub printed : List ℕ → List ℕ → List ℕ
printed s l =
    cond (eqb (refusal_of s) 0)
    (cond (leb (length l) most_bytes) (ran_text s (run_of s cost_limit (opened (instance_of s)) l)) (refused_line 11))
    (refused_line (refusal_of s))

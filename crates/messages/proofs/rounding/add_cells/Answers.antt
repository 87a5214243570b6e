-- `add_cells` meets its contract: after i places the row's first i are added.
use Rattle.std.proofs.Common.{◌≡◌, ℕ, List, get_or, set, ℤ, pos, ◌+ℤ◌, sym, ap, ◌∙◌, ap₂, arith, to_z-of_z, w64, SFits, rules}
use Rattle.integers.proofs.Parts.{linear, add, abs}
use Rattle.messages.proofs.KeyLaws.{added_none, added_at, added_more}
use Rattle.messages.proofs.rounding.add_cells.Goals as goal
use Rattle.messages.proofs.rounding.add_cells.Goals.{At-loop-i}

-- where both cells are read: the key, which is as it was at entry, and the row's cell; their sum fits
module _ (h : At-loop-i) where
  abbrev keys : List ℤ
  keys = h.args.keys.now

  abbrev row : List ℤ
  row = h.args.row.now

  abbrev i : ℕ
  i = h.loop-i.i

  key : get_or h.loop-i.keys i (pos 0) ≡ get_or keys i (pos 0)
  key = ap (λ (l : List ℤ). get_or l i (pos 0)) h.loop-i.invariant.1 ∙ added_at keys row i (pos 0)

  fits : SFits w64 (get_or h.loop-i.keys i (pos 0) +ℤ get_or row i (pos 0))
  fits =
      let x = get_or keys i (pos 0) in
      let y = get_or row i (pos 0) in
      rw key (omega (linear, add x y, abs x, abs y, h.requires.within i, h.requires.within_2 i))

pub loop-i-init : goal.loop-i-init
loop-i-init c = (omega arith, sym (added_none c.args.keys.now))

pub overflow_add-keys : goal.overflow_add-keys
overflow_add-keys c =
    let h = (goal.at.overflow_add-keys c).At-loop-i in
    rw (to_z-of_z {w = w64} {z = get_or h.loop-i.keys (i h) (pos 0)} (search rules), to_z-of_z {w = w64} {z = get_or (row h) (i h) (pos 0)} (search rules)) (fits h)

pub loop-i-preserved : goal.loop-i-preserved
loop-i-preserved c =
    let h = (goal.at.loop-i-preserved c).At-loop-i in
    rw (to_z-of_z {w = w64} {z = get_or h.loop-i.keys (i h) (pos 0)} (search rules), to_z-of_z {w = w64} {z = get_or (row h) (i h) (pos 0)} (search rules), to_z-of_z (fits h)) (
      omega arith,
      ap₂ (λ (l : List ℤ) (x : ℤ). set l (i h) (x +ℤ get_or (row h) (i h) (pos 0))) h.loop-i.invariant.1 (key h)
          ∙ added_more (keys h) (row h) (i h) (pos 0) c.loop-i-test.true,
    )

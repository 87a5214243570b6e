-- The whole program: what is printed in each case, and that the buffers lent are of the right lengths.
-- Assumes nothing.
use mathlib.Core.Path.{◌≡◌, sym, ap, ◌∙◌}
use mathlib.Core.Bool.{true}
use mathlib.Core.List.{List}
use Prim.Native.Nat.{ℕ, ◌≤◌, ◌<◌}
use native.Mathlib.Omega.{arith}
use borrow.Author.Tests.{eq-eqb, ne_eqb, eqb-true, eqb-false, le-leb, lt-leb}
use lib.Dec.{eqb}
use lib.ListN.{length, take, replicate, length-replicate}
use lib.Seq.{length-take-le}
use Rattle.integers.proofs.Places.{by-test, if-true, if-false, and_both}
use Rattle.instance.specs.Sheet.{instance_of, refusal_of}
use Rattle.instance.specs.declared.refusal.Refusal.{Refusal}
use Rattle.instance.specs.declared.sheet.Sheet.{Sheet}
use Rattle.instance.specs.Refusal.{number}
use Rattle.instance.proofs.Told.{numbered}
use Rattle.instance.proofs.Sheets.{nodes_is, positions_is, cells_is}
use Rattle.rules.specs.Costs.{Buffers, opened}
use Rattle.rules.specs.Run.{Ran}
use Rattle.rules.specs.Calls.{Opened, Report, lengths_ok, open_of, run_of, report_of, cost_limit}
use Rattle.rules.proofs.Opening.{open_unread, open_fills}
use Rattle.console.specs.Lines.{refused_line, text_of}
use Rattle.console.specs.Program.{most_bytes, ran_text, printed}

-- ---- opening in buffers of the sheet's own lengths

module _ (s : List ℕ) (b : Buffers) (sized : lengths_ok (instance_of s) b ≡ true) where
  pub open_refusal_lem : (open_of s b).refusal ≡ refusal_of s
  open_refusal_lem =
      by-test (eqb (refusal_of s) 0)
      (λ t. let e = eqb-true (refusal_of s) 0 t in sym (ap (λ (o : Opened). o.refusal) (open_fills s b e sized)) ∙ sym e)
      (λ t. sym (ap (λ (o : Opened). o.refusal) (open_unread s b (eqb-false (refusal_of s) 0 t))))

  pub open_leaves : refusal_of s ≡ 0 → (open_of s b).buffers ≡ opened (instance_of s)
  open_leaves e = sym (ap (λ (o : Opened). o.buffers) (open_fills s b e sized))

-- ---- what is printed

module _ (s l : List ℕ) where
  pub printed_refused : (r : Refusal) → number r ≡ refusal_of s → refused_line (number r) ≡ printed s l
  unfolding printed
  printed_refused r e = ap refused_line e ∙ sym (if-false _ _ (ne_eqb (refusal_of s) 0 (λ z. omega (arith, numbered r, e, z))))

  pub printed_long : refusal_of s ≡ 0 → most_bytes < length l → refused_line 11 ≡ printed s l
  unfolding printed
  printed_long e h = sym (if-true _ _ (eq-eqb (refusal_of s) 0 e) ∙ if-false _ _ (lt-leb (length l) most_bytes h))

  pub printed_ran : refusal_of s ≡ 0 → length l ≤ most_bytes → {q : Ran} {t : Report} → q ≡ run_of s cost_limit (opened (instance_of s)) l → t ≡ report_of s cost_limit q.buffers
      → text_of q.finished q.stuck q.refusal t ≡ printed s l
  unfolding printed ran_text
  printed_ran e h {q} f g =
      ap (text_of q.finished q.stuck q.refusal) g ∙ ap (ran_text s) f
      ∙ sym (if-true _ _ (eq-eqb (refusal_of s) 0 e) ∙ if-true _ _ (le-leb (length l) most_bytes h))

-- ---- the parts of the four arrays

pub part_length {ℓ} : {A : Type ℓ} (m n : ℕ) (a : A) → n ≤ m → length (take n (replicate m a)) ≡ n
part_length m n a h = length-take-le n (replicate m a) (rw (length-replicate m a) h)

pub parts_sized : (x : Sheet) (b : Buffers) → length b.nodes ≡ x.positions → length b.labels ≡ x.positions → length b.edges ≡ x.cells → length b.incumbent ≡ x.nodes
    → lengths_ok (instance_of x.bytes.now) b ≡ true
unfolding lengths_ok
parts_sized x b hn hl he hk =
    and_both (and_both (and_both (eq-eqb _ _ (hn ∙ positions_is x)) (eq-eqb _ _ (hl ∙ positions_is x))) (eq-eqb _ _ (he ∙ cells_is x))) (eq-eqb _ _ (hk ∙ nodes_is x))

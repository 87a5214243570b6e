-- `place` meets its contract: refused, nothing is altered; else the smallest matching, or a set that shows why there is none.
use Rattle.std.proofs.Common.{◌≡◌, sym, ap, ◌∙◌, subst, Bool, cond, List, ℕ, ◌≤◌, ◌<◌, arith, length, Bor}
use Rattle.integers.specs.Places.{tabulate}
use Rattle.instance.specs.declared.sheet.Sheet.{Sheet}
use Rattle.instance.specs.Instance.{Instance}
use Rattle.instance.specs.Sheet.{instance_of}
use Rattle.instance.proofs.Told.{handed, numbered}
use Rattle.instance.proofs.Sheets.{proper, nodes_is, nodes_few}
use Rattle.assignment.specs.First.{First}
use Rattle.placing.specs.Words.{entry, All, rank, rows_of, Blocked, Laid}
use Rattle.placing.specs.declared.tables.Nodes.{Nodes}
use Rattle.placing.specs.Placing.{Placed}
use Rattle.placing.proofs.Promised.{unread, unfit, settled, obstructed}
use Rattle.placing.proofs.Answers.{rank_few, smallest_first, blocked_obstruction, blocked_none}
use Rattle.placing.proofs.answer.place.Goals as goal
use Rattle.placing.proofs.answer.place.Goals.{After-lay_words-nodes, In_ok-sheet}

-- a sheet that was read
same : (p : In_ok-sheet) → p.in_ok-sheet.sheet.bytes.now ≡ p.args.sheet.now
same p = ap (λ (b : Bor (List ℕ)). b.now) p.in_ok-sheet.ensures.same

-- the lent bytes are as many as nodes, and the nodes laid out are the sheet's
module _ (c : After-lay_words-nodes) where
  abbrev x : Sheet
  x = c.in_ok-sheet.sheet

  abbrev s : List ℕ
  s = x.bytes.now

  abbrev I : Instance
  I = instance_of s

  abbrev out : List ℕ
  out = c.args.out.now

  long : length out ≡ I.node_count
  long = c.if-out-sheet.false ∙ nodes_is x

  few : length out ≤ 64
  few = omega (arith, c.if-out-sheet.false, nodes_few x)

  abbrev nodes : Nodes
  nodes = c.lay_words-nodes.result

  count_is : nodes.count ≡ I.node_count
  count_is = c.lay_words-nodes.ensures.0 ∙ nodes_is x

  words : Laid I I.node_count nodes.sets nodes.own
  words = subst (λ n. Laid I n nodes.sets nodes.own) (nodes_is x) c.lay_words-nodes.ensures.1

  -- all of them are placed
  module _ (taken : List ℕ) (f : First (All nodes.count nodes.sets nodes.own) nodes.count (entry taken)) where
    placed : First (All I.node_count nodes.sets nodes.own) I.node_count (entry taken)
    placed = subst (λ n. First (All n nodes.sets nodes.own) n (entry taken)) count_is f

    ranks_few : (u : ℕ) → u < length out → rank (entry nodes.sets u) (entry taken u) < 16
    ranks_few u h = let g : u < I.node_count = omega (arith, long) in rank_few (proper x) words u _ g (placed.one.allowed u g)

    positions : {left : List ℕ} → left ≡ tabulate (length out) (λ u. rank (entry nodes.sets u) (entry taken u)) → Placed s out 0 left
    positions e =
        let (rest, q) = smallest_first (proper x) words placed in
        subst (λ left. Placed s out 0 left) (sym (e ∙ ap (λ (n : ℕ). tabulate n (λ u. rank (entry nodes.sets u) (entry taken u))) long)) (settled s out x.readable long q)

  -- some cannot be
  module _ {R : ℕ → Bool} (b : Blocked (rows_of nodes.count nodes.sets nodes.own) R) where
    blocked : Blocked (rows_of I.node_count nodes.sets nodes.own) R
    blocked = subst (λ n. Blocked (rows_of n nodes.sets nodes.own) R) count_is b

    members : {left : List ℕ} → left ≡ tabulate (length out) (λ u. cond (R u) 1 0) → Placed s out 16 left
    members e =
        subst (λ left. Placed s out 16 left) (sym (e ∙ ap (λ (n : ℕ). tabulate n (λ u. cond (R u) 1 0)) long))
        (obstructed s out x.readable long (blocked_none (proper x) words blocked) (blocked_obstruction (proper x) words blocked))

pub returns-in_err-sheet : goal.returns-in_err-sheet
returns-in_err-sheet c =
    let s = c.args.sheet.now in let out = c.args.out.now in
    subst (λ k. Placed s out k out) (sym (handed _ c.from_residual.result c.from_residual.ensures.1)) (unread s out c.in_err-sheet.ensures.refusal (λ z. omega (arith, z, numbered c.in_err-sheet.field-0.0)))

pub returns-then-out-sheet : goal.returns-then-out-sheet
returns-then-out-sheet c =
    let x = c.in_ok-sheet.sheet in let out = c.args.out.now in
    subst (λ s. Placed s out 8 out) (same (goal.at.returns-then-out-sheet c).In_ok-sheet) (unfit x.bytes.now out x.readable (λ e. c.if-out-sheet.true (e ∙ sym (nodes_is x))))

pub write_positions-requires : goal.write_positions-requires
write_positions-requires c =
    let k = (goal.at.write_positions-requires c).After-lay_words-nodes in (few k, ranks_few k c.in-Ok.taken c.in-Ok.ensures)

pub returns-in-Ok : goal.returns-in-Ok
returns-in-Ok c =
    let k = (goal.at.returns-in-Ok c).After-lay_words-nodes in
    subst (λ s. Placed s c.args.out.now 0 c.write_positions.new.out) (same (goal.at.returns-in-Ok c).In_ok-sheet) (positions k c.in-Ok.taken c.in-Ok.ensures c.write_positions.ensures)

pub returns-in-Err : goal.returns-in-Err
returns-in-Err c =
    let k = (goal.at.returns-in-Err c).After-lay_words-nodes in
    subst (λ s. Placed s c.args.out.now 16 c.write_members.new.out) (same (goal.at.returns-in-Err c).In_ok-sheet) (members k c.in-Err.ensures c.write_members.ensures)

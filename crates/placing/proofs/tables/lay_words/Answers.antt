-- `lay_words` meets its contract: the nodes so far are laid out.
-- Assumes nothing.
use Rattle.std.proofs.Common.{◌<◌, length, refl, sym, subst, arith}
use Rattle.instance.specs.declared.sheet.Sheet.{Sheet}
use Rattle.instance.proofs.Sheets.{whole, nodes_few, node_there}
use Rattle.placing.specs.Words.{entry}
use Rattle.placing.specs.Labels.{Labels, Worded}
use Rattle.placing.proofs.Linking.{words_none}
use Rattle.placing.proofs.Laying.{laid_none, laid_more, bytes_labels}
use Rattle.placing.proofs.tables.lay_words.Goals as goal
use Rattle.placing.proofs.tables.lay_words.Goals.{After-loop-u, In-loop-u}

pub loop-u-init : goal.loop-u-init
loop-u-init c = (refl, record { laid = laid_none _ (words_none 64); size_sets = refl; size_own = refl })

-- a turn's node
module _ (t : In-loop-u) where
  abbrev x : Sheet
  x = t.args.sheet.now

  few : t.loop-u.u < 64
  few = omega (arith, nodes_few x, t.loop-u-test.true)

pub row_of-row-requires : goal.row_of-row-requires
row_of-row-requires c =
    let x = c.args.sheet.now in
    subst (λ l. Labels (entry l) (length l)) (sym c.labels_of.ensures) (bytes_labels (whole x) (node_there x c.loop-u-test.true))

pub offset_bounds-nodes-u : goal.offset_bounds-nodes-u
offset_bounds-nodes-u c = omega (arith, few (goal.at.offset_bounds-nodes-u c).In-loop-u)

pub bounds-nodes-u : goal.bounds-nodes-u
bounds-nodes-u c = few (goal.at.bounds-nodes-u c).In-loop-u

pub bounds-nodes-u-in-loop-u : goal.bounds-nodes-u-in-loop-u
bounds-nodes-u-in-loop-u c = few (goal.at.bounds-nodes-u-in-loop-u c).In-loop-u

pub loop-u-preserved : goal.loop-u-preserved
loop-u-preserved c =
    let x = c.args.sheet.now in
    let w = subst (λ l. Worded (entry l) (length l) c.row_of-row.result.word c.row_of-row.result.own) c.labels_of.ensures c.row_of-row.ensures in
    (c.loop-u.invariant.0, laid_more (whole x) (node_there x c.loop-u-test.true) w c.loop-u.invariant.1)

pub invariant_of-nodes : goal.invariant_of-nodes
invariant_of-nodes c =
    let (e, v) = c.loop-u.invariant in record { few = omega (arith, e, nodes_few c.args.sheet.now); fit = v.laid.fit }

-- `begin` meets its contract: the root's row is the first.
use Rattle.std.proofs.Common.{rules, ◌≡◌, ℕ, ◌<◌, List, length, refl, get_or-set_same, set}
use Rattle.placing.specs.Words.{entry}
use Rattle.placing.proofs.Pathing.{begun_bounded, begun_row}
use Rattle.placing.proofs.paths.Paths.begin.Goals as goal

begun_at : (nodes : List ℕ) (root : ℕ) → 0 < length nodes → entry (set nodes 0 root) 0 ≡ root
begun_at nodes root h = get_or-set_same nodes 0 root 0 h

pub scan-requires : goal.scan-requires
scan-requires c = (
  record { node = c.requires.node; step = search rules; base = search rules; prices = c.requires.priced.top },
  begun_bounded c.args.offers.now c.args.seats.now _ c.args.root refl refl refl refl refl refl (begun_at c.args.self.now.nodes c.args.root (search rules)),
)

pub returns : goal.returns
returns c =
    let p = c.args.self.now in
    let r = c.scan.ensures in
    (r.0.kept.prices, begun_row c.args.offers.now c.args.seats.now _ c.args.root refl refl refl refl refl refl (begun_at p.nodes c.args.root (search rules)) c.requires r.0 r.1)

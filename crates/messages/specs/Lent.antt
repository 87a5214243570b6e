-- The lent buffers as the rules have them, and what the code asks of lent costs.
use Rattle.std.specs.Prelude.{◌≡◌, ℕ, List, length, ℤ}
use Rattle.integers.specs.Sum.{Within}
use Rattle.instance.specs.Instance.{node_cells, edge_cells}
use Rattle.instance.specs.Sheet.{instance_of}
use Rattle.rules.specs.Costs.{Buffers}
use Rattle.rules.specs.Calls.{Opened, cost_limit}
use Rattle.messages.specs.declared.lent.Lent.{Lent}

-- the four lent buffers, by their contents and as they are lent
abbrev pub lent : List ℤ → List ℤ → List ℤ → List ℕ → Buffers
lent nodes labels edges incumbent = record { nodes = nodes; labels = labels; edges = edges; incumbent = incumbent }

abbrev pub lent_of : Lent → Buffers
lent_of l = lent l.nodes.now l.labels.now l.edges.now l.incumbent.now

-- what an opening leaves and answers
abbrev pub opens : Buffers → ℕ → Opened
opens b refusal = record { buffers = b; refusal = refusal }

-- so many costs, each within ±2^40: the one bound that the machine's sums rest on, whatever the limit of the call
pub record Fits (count : ℕ) (costs : List ℤ) : Type 0 where
  pub size : length costs ≡ count
  pub range : Within cost_limit costs

-- the costs of a node or a label for each place, and of an edge for each cell
abbrev pub NodeFits : List ℕ → List ℤ → Type 0
NodeFits s costs = Fits (node_cells (instance_of s)) costs

abbrev pub EdgeFits : List ℕ → List ℤ → Type 0
EdgeFits s costs = Fits (edge_cells (instance_of s)) costs

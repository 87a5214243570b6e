-- `put` meets its contract: the piece stands behind the text.
-- Assumes nothing.
use mathlib.Core.Path.{◌≡◌, refl, sym, ap, ◌∙◌}
use mathlib.Core.List.{List, ◌++◌}
use Prim.Native.Nat.{ℕ, ◌+◌, ◌-◌}
use native.Mathlib.Omega.{arith}
use borrow.Rule.Slice.PartMut.{same_len_mid, mid_len}
use lib.ListN.{length, take}
use Rattle.std.proofs.lemmas.Slice.{take-put_mid, drop-put_mid}
use Rattle.console.proofs.text.Text.put.Goals as goal

pub returns : goal.returns
returns c =
    let t = c.args.self.now in
    let piece = c.args.piece.now in
    let end = t.len + length piece in
    let e : c.copy_from_slice.new.self ≡ piece = c.copy_from_slice.ensures.after in
    let n : length c.copy_from_slice.new.self ≡ end - t.len = ap length e ∙ omega arith in
    record {
      same_reference = refl;
      size = same_len_mid t.len (end - t.len) t.out.now c.copy_from_slice.new.self (n ∙ sym (mid_len t.len end t.out.now (omega arith)));
      place = refl;
      content = take-put_mid t.len (end - t.len) t.out.now c.copy_from_slice.new.self end (omega arith) (omega arith) ∙ ap (λ (l : List ℕ). take t.len t.out.now ++ l) e;
      rest = drop-put_mid t.len (end - t.len) t.out.now c.copy_from_slice.new.self end (omega arith) (omega arith) n;
    }

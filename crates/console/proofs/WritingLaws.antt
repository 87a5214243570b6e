-- Text written piece by piece.
-- Assumes nothing.
use mathlib.Core.Path.{◌≡◌, refl, sym, ap, ap₂, subst, ◌∙◌}
use mathlib.Core.List.{List, [], ◌++◌, append_assoc, append-nil}
use Prim.Native.Nat.{ℕ, ◌+◌, ◌-◌, ◌≤◌, ◌<◌}
use native.Mathlib.Omega.{arith}
use lib.ListN.{length, take, drop, length-append, take-append-drop}
use lib.Seq.{drop-drop}
use borrow.Author.Tests.{lt-ltb, le-ltb}
use Rattle.integers.proofs.Places.{if-true, if-false}
use Rattle.console.specs.declared.text.Text.{Text}
use Rattle.console.specs.Output.{outputs, output_of}
use Rattle.console.specs.Writing.{Wrote}

pub wrote_none : (t : Text) → Wrote t [] t
wrote_none t = record { same_reference = refl; size = refl; place = omega arith; content = sym (append-nil _); rest = refl }

-- what lies past a place lies past every later one
drop_on : (m n : ℕ) (k l : List ℕ) → m ≤ n → drop m k ≡ drop m l → drop n k ≡ drop n l
drop_on m n k l h e =
    let d : m + (n - m) ≡ n = omega arith in
    ap (λ (i : ℕ). drop i k) (sym d) ∙ sym (drop-drop (n - m) m k) ∙ ap (drop (n - m)) e ∙ drop-drop (n - m) m l ∙ ap (λ (i : ℕ). drop i l) d

module _ {t : Text} {x : List ℕ} {t' : Text} (p : Wrote t x t') where
  -- one text after another
  pub wrote_append : {y : List ℕ} {t'' : Text} → Wrote t' y t'' → Wrote t (x ++ y) t''
  wrote_append {y} {t''} q = record {
    same_reference = q.same_reference ∙ p.same_reference;
    size = q.size ∙ p.size;
    place = omega (arith, p.place, q.place, length-append x y);
    content = q.content ∙ ap (λ (l : List ℕ). l ++ y) p.content ∙ append_assoc (take t.len t.out.now) x y;
    rest = q.rest ∙ drop_on t'.len t''.len t'.out.now t.out.now (omega (arith, q.place)) p.rest;
  }

  pub wrote_as : {y : List ℕ} → x ≡ y → Wrote t y t'
  wrote_as e = subst (λ (l : List ℕ). Wrote t l t') e p

-- from the start of a buffer that is long enough
pub put_out : {x : List ℕ} {t t' : Text} → t.len ≡ 0 → 256 ≤ length t.out.now → Wrote t x t' → outputs t'.out.now t'.len ≡ output_of x t.out.now
unfolding output_of
put_out {x} {t} {t'} z h p =
    let e : t'.len ≡ length x = omega (arith, p.place) in
    let f : t'.out.now ≡ x ++ drop (length x) t.out.now =
    sym (take-append-drop t'.len t'.out.now) ∙ ap₂ ◌++◌ (p.content ∙ ap (λ (n : ℕ). take n t.out.now ++ x) z) (p.rest ∙ ap (λ (n : ℕ). drop n t.out.now) e) in
    ap₂ outputs f e ∙ sym (if-false _ _ (le-ltb (length t.out.now) 256 h))

pub out_short : {a : List ℕ} (text : List ℕ) → length a < 256 → outputs a 0 ≡ output_of text a
unfolding output_of
out_short {a} text h = sym (if-true _ _ (lt-ltb (length a) 256 h))

pub out_as : (a : List ℕ) {x y b : List ℕ} {r : ℕ} → x ≡ y → outputs b r ≡ output_of x a → outputs b r ≡ output_of y a
out_as a e p = p ∙ ap (λ (t : List ℕ). output_of t a) e

-- The lines of what is printed: a name and a value are one line, since neither has a newline in it.
-- Assumes nothing.
use mathlib.Core.Path.{◌≡◌, refl, sym, ap, subst, ◌∙◌}
use mathlib.Core.Bool.{Bool, true, false, cond}
use mathlib.Core.List.{List, [], ◌∷◌, ◌++◌, append_assoc, append-nil}
use mathlib.Core.Logic.{inl, inr}
use Prim.Native.Nat.{ℕ, zero, suc, ◌+◌, ◌/◌, ◌%◌}
use native.Mathlib.Omega.{arith}
use borrow.Author.Tests.{ne_eqb}
use lib.Dec.{eqb, ltb}
use lib.ListN.{get_or, drop}
use lib.IntN.{ℤ, pos, negsuc}
use Rattle.integers.proofs.Places.{by-test, by_cond, if-true, if-false}
use Rattle.console.specs.Ascii.{ascii}
use Rattle.console.specs.Decimal.{digits_in, decimal, signed, value_from}
use Rattle.console.specs.Lines.{line, refused_line, count_lines, kept_lines, bound_lines, stop_line}
use Rattle.console.specs.TextLines.{lines_from, lines_of, Among, HasLine}
use Rattle.console.proofs.DecimalLaws.{decimal_digit, value_decimal, lead_decimal}

-- ---- texts without a newline

abbrev pub plain : List ℕ → Bool
plain [] = true
plain (b ∷ x) = cond (eqb b 10) false (plain x)

plain_append : (x y : List ℕ) → plain x ≡ true → plain y ≡ true → plain (x ++ y) ≡ true
plain_append [] y h g = g
plain_append (b ∷ x) y h g =
    by-test (eqb b 10) (λ t. absurd (let z : ◌≡◌ {A = Bool} false true = sym (if-true false (plain x) t) ∙ h in let o : ◌≡◌ {A = ℕ} 0 1 = cc in omega arith))
    (λ t. if-false false (plain (x ++ y)) t ∙ plain_append x y (sym (if-false false (plain x) t) ∙ h) g)

plain_byte : (b : ℕ) → (b ≡ 10 → ⊥) → plain (b ∷ []) ≡ true
plain_byte b h = if-false false true (ne_eqb b 10 h)

plain_digits : (m n : ℕ) → plain (digits_in m n) ≡ true
unfolding digits_in
plain_digits zero n = refl
plain_digits (suc m) n =
    by_cond (λ (l : List ℕ). plain l ≡ true) (ltb n 10) (λ t. plain_byte (48 + n) (λ e. omega arith))
    (λ t. plain_append (digits_in m (n / 10)) ((48 + n % 10) ∷ []) (plain_digits m (n / 10)) (plain_byte (48 + n % 10) (λ e. omega arith)))

plain-decimal : (n : ℕ) → plain (decimal n) ≡ true
unfolding decimal
plain-decimal n = plain_digits (suc n) n

plain-signed : (z : ℤ) → plain (signed z) ≡ true
unfolding signed
plain-signed (pos n) = plain-decimal n
plain-signed (negsuc n) = plain_append (45 ∷ []) (decimal (suc n)) refl (plain-decimal (suc n))

-- ---- a line, and what follows it

lines_plain : (a x t : List ℕ) → plain x ≡ true → lines_from a (x ++ (10 ∷ t)) ≡ (a ++ x) ∷ lines_from [] t
unfolding lines_from
lines_plain a [] t h = ap (λ (l : List ℕ). l ∷ lines_from [] t) (sym (append-nil a))
lines_plain a (b ∷ x) t h =
    by-test (eqb b 10) (λ e. absurd (let z : ◌≡◌ {A = Bool} false true = sym (if-true false (plain x) e) ∙ h in let o : ◌≡◌ {A = ℕ} 0 1 = cc in omega arith))
    (λ e. if-false (a ∷ lines_from [] (x ++ (10 ∷ t))) (lines_from (a ++ (b ∷ [])) (x ++ (10 ∷ t))) e
    ∙ lines_plain (a ++ (b ∷ [])) x t (sym (if-false false (plain x) e) ∙ h)
    ∙ ap (λ (l : List ℕ). l ∷ lines_from [] t) (append_assoc a (b ∷ []) x))

pub line_first : (name value rest : List ℕ) → plain name ≡ true → plain value ≡ true → lines_of (line name value ++ rest) ≡ (name ++ value) ∷ lines_of rest
unfolding lines_of line
line_first name value rest h g =
    ap (lines_from []) (append_assoc (name ++ value) (10 ∷ []) rest) ∙ lines_plain [] (name ++ value) rest (plain_append name value h g)

-- ---- the lines of a run and of the report after it

abbrev named : List ℕ → List ℕ → List ℕ → List ℕ → List ℕ → List (List ℕ) → List (List ℕ)
named d s b c g rest = (ascii "done " ++ d) ∷ (ascii "stuck " ++ s) ∷ (ascii "bound " ++ b) ∷ (ascii "cost " ++ c) ∷ (ascii "gap " ++ g) ∷ rest

five : (d s b c g rest : List ℕ) → plain d ≡ true → plain s ≡ true → plain b ≡ true → plain c ≡ true → plain g ≡ true
    → lines_of (line (ascii "done ") d ++ (line (ascii "stuck ") s ++ (line (ascii "bound ") b ++ (line (ascii "cost ") c ++ (line (ascii "gap ") g ++ rest))))) ≡ named d s b c g (lines_of rest)
five d s b c g rest pd ps pb pc pg =
    line_first (ascii "done ") d _ refl pd
    ∙ ap (λ l. (ascii "done " ++ d) ∷ l) (line_first (ascii "stuck ") s _ refl ps
    ∙ ap (λ l. (ascii "stuck " ++ s) ∷ l) (line_first (ascii "bound ") b _ refl pb
    ∙ ap (λ l. (ascii "bound " ++ b) ∷ l) (line_first (ascii "cost ") c _ refl pc
    ∙ ap (λ l. (ascii "cost " ++ c) ∷ l) (line_first (ascii "gap ") g rest refl pg))))

pub kept_five : (d s r : ℕ) (z p g : ℤ) → lines_of (count_lines d s ++ kept_lines z p g ++ stop_line r) ≡ named (decimal d) (decimal s) (signed z) (signed p) (signed g) (lines_of (stop_line r))
unfolding count_lines kept_lines
kept_five d s r z p g =
    ap lines_of (simp append_assoc) ∙ five (decimal d) (decimal s) (signed z) (signed p) (signed g) (stop_line r) (plain-decimal d) (plain-decimal s) (plain-signed z) (plain-signed p) (plain-signed g)

none_lines : (z : ℤ) → bound_lines z ≡ line (ascii "bound ") (signed z) ++ line (ascii "cost ") (ascii "none") ++ line (ascii "gap ") (ascii "none")
unfolding bound_lines line
none_lines z = refl

pub bound_five : (d s r : ℕ) (z : ℤ) → lines_of (count_lines d s ++ bound_lines z ++ stop_line r) ≡ named (decimal d) (decimal s) (signed z) (ascii "none") (ascii "none") (lines_of (stop_line r))
unfolding count_lines
bound_five d s r z =
    ap (λ (t : List ℕ). lines_of (count_lines d s ++ t ++ stop_line r)) (none_lines z)
    ∙ ap lines_of (simp append_assoc) ∙ five (decimal d) (decimal s) (signed z) (ascii "none") (ascii "none") (stop_line r) (plain-decimal d) (plain-decimal s) (plain-signed z) refl refl

refused_one : (r : ℕ) → lines_of (refused_line r) ≡ (ascii "refused " ++ decimal r) ∷ []
unfolding refused_line lines_of lines_from
refused_one r = ap lines_of (sym (append-nil (line (ascii "refused ") (decimal r)))) ∙ line_first (ascii "refused ") (decimal r) [] refl (plain-decimal r)

-- ---- lines that begin otherwise

heads : {a b : ℕ} {x y : List ℕ} → (a ∷ x) ≡ (b ∷ y) → a ≡ b
heads e = cc

pub not_refused : (b r : ℕ) (x : List ℕ) → (b ≡ 114 → ⊥) → HasLine (refused_line r) (b ∷ x) → ⊥
not_refused b r x h m = other (subst (λ l. Among l (b ∷ x)) (refused_one r) m)
  where
    other : Among ((ascii "refused " ++ decimal r) ∷ []) (b ∷ x) → ⊥
    other (inl e) = h (heads e)
    other (inr z) = z

pub not_stop : (b r : ℕ) (x : List ℕ) → (b ≡ 114 → ⊥) → HasLine (stop_line r) (b ∷ x) → ⊥
unfolding stop_line lines_of lines_from
not_stop b r x h m =
    by-test (eqb r 0) (λ t. subst (λ (y : List ℕ). HasLine y (b ∷ x)) (if-true [] (refused_line r) t) m)
    (λ t. not_refused b r x h (subst (λ (y : List ℕ). HasLine y (b ∷ x)) (if-false [] (refused_line r) t) m))

-- the gap's line, and the cost's
pub gap_is : (x d s b c g : List ℕ) (rest : List (List ℕ)) → (Among rest (ascii "gap " ++ x) → ⊥) → Among (named d s b c g rest) (ascii "gap " ++ x) → x ≡ g
gap_is x d s b c g rest h (inl e) = absurd (omega (arith, heads e))
gap_is x d s b c g rest h (inr (inl e)) = absurd (omega (arith, heads e))
gap_is x d s b c g rest h (inr (inr (inl e))) = absurd (omega (arith, heads e))
gap_is x d s b c g rest h (inr (inr (inr (inl e)))) = absurd (omega (arith, heads e))
gap_is x d s b c g rest h (inr (inr (inr (inr (inl e))))) = ap (drop 4) e
gap_is x d s b c g rest h (inr (inr (inr (inr (inr m))))) = absurd (h m)

pub cost_is : (x d s b c g : List ℕ) (rest : List (List ℕ)) → (Among rest (ascii "cost " ++ x) → ⊥) → Among (named d s b c g rest) (ascii "cost " ++ x) → x ≡ c
cost_is x d s b c g rest h (inl e) = absurd (omega (arith, heads e))
cost_is x d s b c g rest h (inr (inl e)) = absurd (omega (arith, heads e))
cost_is x d s b c g rest h (inr (inr (inl e))) = absurd (omega (arith, heads e))
cost_is x d s b c g rest h (inr (inr (inr (inl e)))) = ap (drop 5) e
cost_is x d s b c g rest h (inr (inr (inr (inr (inl e))))) = absurd (omega (arith, heads e))
cost_is x d s b c g rest h (inr (inr (inr (inr (inr m))))) = absurd (h m)

-- ---- a number's text is its own

decimal_same : (m n : ℕ) → decimal m ≡ decimal n → m ≡ n
decimal_same m n e = sym (value_decimal m) ∙ ap (value_from 0) e ∙ value_decimal n

no_sign : (n : ℕ) (x : List ℕ) → decimal n ≡ 45 ∷ x → ⊥
no_sign zero x e = omega (arith, heads (sym (decimal_digit 0 (omega arith)) ∙ e))
no_sign (suc n) x e = omega (arith, lead_decimal (suc n) (omega arith), ap (λ (l : List ℕ). get_or l 0 0) e)

pub signed_same : (y z : ℤ) → signed y ≡ signed z → y ≡ z
unfolding signed
signed_same (pos m) (pos n) e = ap pos (decimal_same m n e)
signed_same (pos m) (negsuc n) e = absurd (no_sign m (decimal (suc n)) e)
signed_same (negsuc m) (pos n) e = absurd (no_sign n (decimal (suc m)) (sym e))
signed_same (negsuc m) (negsuc n) e = let q : suc m ≡ suc n = decimal_same (suc m) (suc n) (ap (drop 1) e) in ap negsuc (omega arith)

pub signed_zero : ascii "0" ≡ signed (pos 0)
unfolding signed decimal digits_in
signed_zero = refl

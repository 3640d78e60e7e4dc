-- Laws of the fields and of the chain of faults, for proofs.
use Rattle.std.specs.Prelude.{Result, Ok, Err, OnOk}
use Rattle.std.specs.Prelude.{ℕ, ◌+◌, ◌/◌, ◌%◌, ◌^◌, ◌≤◌, ◌<◌, List, ◌++◌, Bool, true, false, ◌≡◌, refl, length, leb, take, drop}
use Rattle.std.specs.Int.{to_be_bytes, w32}
use Rattle.std.proofs.lemmas.List.{append_assoc}
use Rattle.std.proofs.lemmas.List.Edits.{sets, sets-eq}
use Rattle.std.proofs.Math.Seq.{drop-drop}
use Rattle.std.proofs.Common.{ap, ap₂, sym, ◌∙◌, arith, leb-true, le-leb}
use Rattle.std.proofs.Math.ListN.{get_or-eq_default}
use Rattle.std.proofs.lemmas.Bool.{lt-leb}
use Rattle.fields.specs.declared.Refusal.{Refusal}
use Rattle.fields.specs.declared.Refusal.TheVariants.{Outside}
use Rattle.fields.specs.declared.Fault.{Fault}
use Rattle.fields.specs.Faults.{FirstFault}
use Rattle.fields.specs.Faults.{Clear, Bad}
use Rattle.fields.specs.Field.{u16_at, u32_at, be32, Bytes}
use Rattle.fields.specs.Faults.{◌then◌, earlier, rule, inside}

-- ---- numbers in bytes

pub u16_at-past : (t : List ℕ) (at : ℕ) → length t ≤ at → u16_at t at ≡ 0
unfolding u16_at
u16_at-past t at h =
    let h1 : length t ≤ at + 1 = omega arith in
    omega (arith, get_or-eq_default t 0 h, get_or-eq_default t 0 h1)

pub u32_at-past : (t : List ℕ) (at : ℕ) → length t ≤ at → u32_at t at ≡ 0
unfolding u32_at
u32_at-past t at h =
    let h1 : length t ≤ at + 2 = omega arith in
    omega (arith, u16_at-past t at h, u16_at-past t (at + 2) h1)

pub u16_at-fits : (t : List ℕ) (at : ℕ) → Bytes t → u16_at t at < 2 ^ 16
unfolding u16_at
u16_at-fits t at b = omega (arith, b at, b (at + 1))

pub u32_at-fits : (t : List ℕ) (at : ℕ) → Bytes t → u32_at t at < 2 ^ 32
unfolding u32_at
u32_at-fits t at b = omega (arith, u16_at-fits t at b, u16_at-fits t (at + 2) b)

-- the bytes of a number, the highest first, are those of its halves
pub halves_bytes : (n : ℕ) → n < 2 ^ 32 → to_be_bytes w32 n ≡ be32 n
halves_bytes n h =
    let a : n / 65536 / 256 ≡ n / 16777216 = omega arith in
    let b : n % 65536 / 256 % 256 ≡ n / 256 % 256 = omega arith in
    let c : n % 65536 % 256 ≡ n % 256 = omega arith in
    simp (a, b, c)

-- four bytes that take the place of those from an index on
pub word_placed : (l : List ℕ) (at n : ℕ) → at + 4 ≤ length l → take at l ++ (be32 n ++ drop 4 (drop at l)) ≡ sets l at (be32 n)
word_placed l at n h =
    ap (λ (r : List ℕ). take at l ++ (be32 n ++ r)) (drop-drop 4 at l) ∙ sym (append_assoc (take at l) (be32 n) (drop (at + 4) l)) ∙ sym (sets-eq (be32 n) l at h)

-- ---- chains

-- a refusal at an offset is one fault
pub one-fault : (f g : Fault) → f.refusal ≡ g.refusal → f.at ≡ g.at → f ≡ g
one-fault f g e o = ap₂ (λ (r : Refusal) (at : ℕ). record { refusal = r; at = at }) e o

pub then-assoc : (f g h : FirstFault) → ((f then g) then h) ≡ (f then (g then h))
unfolding earlier
then-assoc (Ok u) g h = refl
then-assoc (Err f) g h = refl

pub then-clear : (f : FirstFault) → (f then Clear) ≡ f
unfolding earlier
then-clear (Ok u) = refl
then-clear (Err f) = refl

-- a chain that is clear is clear in each part
pub then-first : (f g : FirstFault) → (f then g) ≡ Clear → f ≡ Clear
unfolding earlier
then-first (Ok u) g e = refl
then-first (Err f) g e = cc

pub then-second : (f g : FirstFault) → (f then g) ≡ Clear → g ≡ Clear
unfolding earlier
then-second (Ok u) g e = e
then-second (Err f) g e = cc

-- one call of `then`: what it ensures, with what its arguments are
pub then-of : {r f g f' g' : FirstFault} → r ≡ (f then g) → f ≡ f' → g ≡ g' → r ≡ (f' then g')
then-of {r} {f} {g} {f'} {g'} e p q = cc

-- a chain whose first part is a fault, and one whose first part is clear
pub then-stop : {f : FirstFault} (g : FirstFault) {r : Refusal} {p : ℕ} → f ≡ Bad r p → (f then g) ≡ f
unfolding earlier
then-stop {f} g {r} {p} e = cc

pub then-go : {f : FirstFault} (g : FirstFault) → f ≡ Clear → (f then g) ≡ g
unfolding earlier
then-go {f} g e = cc

-- what holds anyway holds where there is no fault
pub on_ok_always : {T E P : Type 0} (r : Result T E) → P → OnOk r P
on_ok_always (Ok v) p = p
on_ok_always (Err e) p = tt

-- what one fault is
abbrev fault_or : Fault → FirstFault → Fault
fault_or d (Ok u) = d
fault_or d (Err f) = f

pub bad-refusal : {r s : Refusal} {at p : ℕ} → Bad r at ≡ Bad s p → r ≡ s
bad-refusal {r} {s} {at} {p} e = ap (λ (o : FirstFault). (fault_or (record { refusal = r; at = at }) o).refusal) e

pub bad-at : {r s : Refusal} {at p : ℕ} → Bad r at ≡ Bad s p → at ≡ p
bad-at {r} {s} {at} {p} e = ap (λ (o : FirstFault). (fault_or (record { refusal = r; at = at }) o).at) e

-- ---- a rule, and a field found inside

pub rule-holds : (b : Bool) (r : Refusal) (at : ℕ) → rule b r at ≡ Clear → b ≡ true
unfolding rule
rule-holds true r at e = refl
rule-holds false r at e = cc

pub rule-fails : {b : Bool} (r : Refusal) (at : ℕ) → b ≡ false → rule b r at ≡ Bad r at
unfolding rule
rule-fails {b} r at e = cc

pub rule-clear : {b : Bool} (r : Refusal) (at : ℕ) → b ≡ true → rule b r at ≡ Clear
unfolding rule
rule-clear {b} r at e = cc

pub inside-holds : (t : List ℕ) (at width : ℕ) → inside t at width ≡ Clear → at + width ≤ length t
unfolding inside
inside-holds t at width e = leb-true (at + width) (length t) (rule-holds (leb (at + width) (length t)) Outside at e)

-- the same, as a call of `in_table` says it
pub inside-ok : (t : List ℕ) (at width : ℕ) {u : Unit} → Ok u ≡ inside t at width → at + width ≤ length t
inside-ok t at width {u} e = inside-holds t at width (sym e)

pub clear-inside : (t : List ℕ) (at width : ℕ) → at + width ≤ length t → inside t at width ≡ Clear
unfolding inside rule
clear-inside t at width h = simp (le-leb (at + width) (length t) h)

pub bad-inside : (t : List ℕ) (at width : ℕ) → length t < at + width → inside t at width ≡ Bad Outside at
unfolding inside rule
bad-inside t at width h = simp (lt-leb (at + width) (length t) h)

-- A cluster stands in a sheet as it would in a table: what is read there as in a table is the cluster.
use Prim.Native.Nat.{ℕ, ◌+◌, ◌-◌, ◌%◌, ◌≤◌, ◌<◌, ◌^◌}
use mathlib.Core.Path.{◌≡◌, refl, sym, ap, ap₂, ◌∙◌}
use mathlib.Core.List.{List, [], ◌∷◌, ◌++◌, append_assoc}
use native.Mathlib.Omega.{arith}
use lib.ListN.{length, take, drop, length-append, length-drop}
use lib.Seq.{get_or-drop, take_all}
use Rattle.fields.specs.Field.{be16, be32, u16_at, u32_at, Bytes}
use Rattle.fields.proofs.Laws.{u16_at-fits, u32_at-fits}
use Rattle.encoding.specs.Codes.{All, many}
use Rattle.encoding.proofs.CodeLaws.{be16-free, be32-free, be16-at, be32-at}
use Rattle.units.specs.Fixed.{fixed_size}
use Rattle.units.specs.Flags.{kept_flags}
use Rattle.units.proofs.Laws.{size_low}
use Rattle.units.proofs.FlagLaws.{kept-is}
use Rattle.types.specs.declared.Pair.{Pair}
use Rattle.meaning.specs.Limits.{OkFlags, OkPair, OkCluster}
use Rattle.meaning.specs.Sheet.{pair_code}
use Rattle.cluster.specs.Faults.{pair_class}
use Rattle.std.specs.Prelude.{Option, Some, None, Ok}
use Rattle.meaning.specs.Ask.{pair, maybe}
use Rattle.answers.specs.Says.{given, says_record}
use Rattle.cluster.specs.Pairs.{pair_at, pairs_at, cluster_at, sought_pair}
use Rattle.meaning.specs.Wide.{WidePair}
use Rattle.sheet_cluster.specs.Clusters.{cluster_code}
use Rattle.sheet_seek.proofs.PassLaws.{opened}

-- ---- a part of bytes

pub part-is : (s : List ℕ) (at : ℕ) → take (length s - at) (drop at s) ≡ drop at s
part-is s at = take_all (length s - at) (drop at s) (omega (arith, length-drop at s))

pub part_bytes : (s : List ℕ) (at : ℕ) → Bytes s → Bytes (drop at s)
part_bytes s at bytes i = omega (arith, bytes (at + i), get_or-drop at s i 0)

-- ---- a number that is written first stands there

module _ (t : List ℕ) (bytes : Bytes t) where
  pub read16 : (p q x : ℕ) (rest : List ℕ) → q ≡ p + 2 → x < 2 ^ 16 → drop p t ≡ be16 x ++ rest → (u16_at t p ≡ x) × (drop q t ≡ rest)
  read16 p q x rest eq h e =
      let room : p + 2 ≤ length t = omega (arith, ap length e, length-drop p t, length-append (be16 x) rest) in
      let g = be16-free (u16_at t p) x (drop (p + 2) t) rest (u16_at-fits t p bytes) h (sym (be16-at t bytes p room) ∙ e) in
      (g.0, ap (λ (k : ℕ). drop k t) eq ∙ g.1)

  pub read32 : (p q x : ℕ) (rest : List ℕ) → q ≡ p + 4 → x < 2 ^ 32 → drop p t ≡ be32 x ++ rest → (u32_at t p ≡ x) × (drop q t ≡ rest)
  read32 p q x rest eq h e =
      let room : p + 4 ≤ length t = omega (arith, ap length e, length-drop p t, length-append (be32 x) rest) in
      let g = be32-free (u32_at t p) x (drop (p + 4) t) rest (u32_at-fits t p bytes) h (sym (be32-at t bytes p room) ∙ e) in
      (g.0, ap (λ (k : ℕ). drop k t) eq ∙ g.1)

  -- ---- a pair

  kept : (f : ℕ) → OkFlags f → kept_flags f ≡ f
  kept f h = kept-is f ∙ omega (arith, h.0, h.1)

  pair_is : (p : ℕ) (x : Pair) (rest : List ℕ) → OkPair x → drop p t ≡ pair_code x ++ rest → (pair_at t p ≡ x) × (drop (p + 24) t ≡ rest)
  unfolding pair_at pair_class
  pair_is p x rest o e =
      let f1 = read32 p (p + 4) x.class _ refl (omega (arith, o.0)) e in
      let f2 = read32 (p + 4) (p + 8) x.before.grow _ (omega arith) (omega (arith, o.1.0)) f1.1 in
      let f3 = read32 (p + 8) (p + 12) x.before.shrink _ (omega arith) (omega (arith, o.1.1)) f2.1 in
      let f4 = read32 (p + 12) (p + 16) x.after.grow _ (omega arith) (omega (arith, o.2.0)) f3.1 in
      let f5 = read32 (p + 16) (p + 20) x.after.shrink _ (omega arith) (omega (arith, o.2.1)) f4.1 in
      let f6 = read16 (p + 20) (p + 22) x.flags.grow _ (omega arith) (omega (arith, o.3.0)) f5.1 in
      let f7 = read16 (p + 22) (p + 24) x.flags.shrink rest (omega arith) (omega (arith, o.4.0)) f6.1 in
      let c : u32_at t p % 128 ≡ x.class = omega (arith, f1.0, o.0) in
      let before = ap fixed_size f3.0 ∙ size_low x.before.shrink (omega (arith, o.1.1)) in
      let after = ap fixed_size f5.0 ∙ size_low x.after.shrink (omega (arith, o.2.1)) in
      let fg = ap kept_flags f6.0 ∙ kept x.flags.grow o.3 in
      let fs = ap kept_flags f7.0 ∙ kept x.flags.shrink o.4 in (
        (λ i. record {
          class = c i;
          before = record { grow = f2.0 i; shrink = before i };
          after = record { grow = f4.0 i; shrink = after i };
          flags = record { grow = fg i; shrink = fs i };
        }),
        f7.1,
      )

  pairs-are : (ps : List Pair) (p : ℕ) (rest : List ℕ) → All OkPair ps → drop p t ≡ many pair_code ps ++ rest → pairs_at t (length ps) p ≡ ps
  unfolding pairs_at
  pairs-are [] p rest a e = refl
  pairs-are (x ∷ ps) p rest a e =
      let f = pair_is p x (many pair_code ps ++ rest) a.0 (e ∙ append_assoc (pair_code x) (many pair_code ps) rest) in
      ap₂ (λ (y : Pair) (l : List Pair). y ∷ l) f.0 (pairs-are ps (p + 24) rest a.1 f.1)

  cluster-is : (ps : List Pair) (rest : List ℕ) → OkCluster ps → t ≡ cluster_code ps ++ rest → cluster_at t 0 ≡ ps
  unfolding cluster_at
  cluster-is ps rest o e =
      let f = opened pair_code WidePair t bytes 0 ps rest (omega (arith, o.0)) e in
      ap (λ (k : ℕ). pairs_at t k 4) f.1 ∙ pairs-are ps 4 rest o.1 f.2

pub cluster-there : (s : List ℕ) → Bytes s → (at : ℕ) (ps : List Pair) (rest : List ℕ) → OkCluster ps → drop at s ≡ cluster_code ps ++ rest
    → cluster_at (take (length s - at) (drop at s)) 0 ≡ ps
cluster-there s bytes at ps rest o e =
    ap (λ (l : List ℕ). cluster_at l 0) (part-is s at) ∙ cluster-is (drop at s) (part_bytes s at bytes) ps rest o e

-- a cluster does not begin past the end
pub cluster-inside : (s : List ℕ) (at : ℕ) (ps : List Pair) (rest : List ℕ) → drop at s ≡ cluster_code ps ++ rest → length s < at → ⊥
cluster-inside s at ps rest e h = omega (arith, ap length e, length-drop at s, length-append (be32 (length ps)) (many pair_code ps ++ rest))

-- what is said of a record that was sought
pub says-sought : (r : Option Pair) → says_record (Ok r) ≡ given (maybe pair (sought_pair r))
says-sought (Some p) = refl
says-sought None = refl

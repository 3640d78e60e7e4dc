-- A sheet has one meaning: what is written for valid meanings is prefix free, part by part, so valid meanings with equal bytes are equal.
use Prim.Native.Nat.{ℕ, ◌<◌, ◌^◌}
use mathlib.Core.Path.{◌≡◌, refl, sym, ap, ap₂, ◌∙◌, subst}
use mathlib.Core.Option.{Option, none, some}
use mathlib.Core.List.{List, [], ◌∷◌, ◌++◌, append_assoc, append-nil, head-eq_of_cons-eq, nil≢cons, cons≢nil}
use native.Mathlib.Omega.{arith}
use native.Mathlib.Nat.{mul-le-mul}
use lib.ListN.{length, replicate, length-replicate}
use Rattle.fields.specs.Field.{be32}
use Rattle.encoding.specs.Codes.{All, counted, PrefixFree}
use Rattle.encoding.specs.Sections.{byte, run_section, numbered}
use Rattle.encoding.proofs.ListLaws.{all_map, all-unit, all_replicate}
use Rattle.encoding.proofs.CodeLaws.{be16-free, be32-free, peel, counted-free}
use Rattle.encoding.proofs.SectionLaws.{byte-free, run-section-free, numbered-free, pool-free, pool-none}
use Rattle.types.specs.declared.Entry.{Entry}
use Rattle.types.specs.declared.Pair.{Pair}
use Rattle.meaning.specs.Meaning.{Machine, Action, Side, Meaning, empty_side}
use Rattle.meaning.specs.Discrete.{Entry-discrete, cluster-discrete, list-discrete}
use Rattle.meaning.specs.Limits.{OkEntry, OkMachine, OkMaybe, OkPair, OkCluster, OkAction, OkActions, OkSide, Valid}
use Rattle.meaning.specs.Wide.{W32, WideSizes, WideEntry, WidePair, WideAction, FewPairs, FewActions}
use Rattle.meaning.specs.Sheet.{sizes_code, entry_code, pair_code, action_code, sizes_of, cells_of, machine_section, class_section, entry_section, cell_section, cluster_section, cluster_run_section, list_section, list_run_section, machine_bytes, cluster_bytes, list_bytes, write_side, write, IsSheet}

-- ---- entries, pairs and actions

pub entry_free : PrefixFree entry_code WideEntry
entry_free a b s t ha hb e =
    let f = be16-free a.row b.row _ _ ha.0 hb.0 e in
    let g = be16-free a.flags b.flags s t ha.1 hb.1 f.1 in
    ((λ i. record { row = f.0 i; flags = g.0 i }), g.1)

-- a pair's fields in their places
pub pair-sample : pair_code
    (record {
      class = 1;
      before = record { grow = 2; shrink = 3 };
      after = record { grow = 4; shrink = 5 };
      flags = record { grow = 0x1001; shrink = 2 };
    })
    ≡ 0 ∷ 0 ∷ 0 ∷ 1 ∷ 0 ∷ 0 ∷ 0 ∷ 2 ∷ 0 ∷ 0 ∷ 0 ∷ 3 ∷ 0 ∷ 0 ∷ 0 ∷ 4 ∷ 0 ∷ 0 ∷ 0 ∷ 5 ∷ 0x10 ∷ 1 ∷ 0 ∷ 2 ∷ []
pair-sample = refl

pub pair-free : PrefixFree pair_code WidePair
pair-free a b s t ha hb e =
    let f1 = be32-free a.class b.class _ _ ha.class hb.class e in
    let f2 = be32-free a.before.grow b.before.grow _ _ ha.before-grow hb.before-grow f1.1 in
    let f3 = be32-free a.before.shrink b.before.shrink _ _ ha.before-shrink hb.before-shrink f2.1 in
    let f4 = be32-free a.after.grow b.after.grow _ _ ha.after-grow hb.after-grow f3.1 in
    let f5 = be32-free a.after.shrink b.after.shrink _ _ ha.after-shrink hb.after-shrink f4.1 in
    let f6 = be16-free a.flags.grow b.flags.grow _ _ ha.flags-grow hb.flags-grow f5.1 in
    let f7 = be16-free a.flags.shrink b.flags.shrink s t ha.flags-shrink hb.flags-shrink f6.1 in (
      (λ i. record {
        class = f1.0 i;
        before = record { grow = f2.0 i; shrink = f3.0 i };
        after = record { grow = f4.0 i; shrink = f5.0 i };
        flags = record { grow = f6.0 i; shrink = f7.0 i };
      }),
      f7.1,
    )

pub action-free : PrefixFree action_code WideAction
action-free a b s t ha hb e =
    let f = be16-free a.class b.class _ _ ha.0 hb.0 e in
    let g = be16-free a.ty b.ty _ _ ha.1 hb.1 f.1 in
    let h = counted-free byte (λ x. Unit {0}) byte-free a.content b.content s t (ha.2, all-unit a.content) (hb.2, all-unit b.content) g.1 in
    ((λ i. record { class = f.0 i; ty = g.0 i; content = h.0 i }), h.1)

-- ---- clusters and action lists

pub cluster-free : PrefixFree (counted pair_code) FewPairs
cluster-free = counted-free pair_code WidePair pair-free

pub list-free : PrefixFree (counted action_code) FewActions
list-free = counted-free action_code WideAction action-free

pub wide-pair : (p : Pair) → OkPair p → WidePair p
wide-pair p h =
    record {
      class = omega (arith, h.0);
      before-grow = omega (arith, h.1.0);
      before-shrink = omega (arith, h.1.1);
      after-grow = omega (arith, h.2.0);
      after-shrink = omega (arith, h.2.1);
      flags-grow = omega (arith, h.3.0);
      flags-shrink = omega (arith, h.4.0);
    }

pub few-pairs : (l : List Pair) → OkCluster l → FewPairs l
few-pairs l h = (omega (arith, h.0), all_map OkPair WidePair wide-pair l h.1)

pub wide-action : (n : ℕ) (a : Action) → OkAction n a → WideAction a
wide-action n a h = (omega (arith, h.0), omega (arith, h.1), omega (arith, h.2))

pub few-actions : (n : ℕ) (l : List Action) → OkActions n l → FewActions l
few-actions n l h = (omega (arith, h.0), all_map (OkAction n) WideAction (wide-action n) l h.1)

-- ---- a machine or none: sections 1 to 4

pub sizes-free : PrefixFree sizes_code WideSizes
sizes-free a b s t ha hb e =
    let f = be32-free a.0 b.0 _ _ ha.0 hb.0 e in
    let g = be32-free a.1 b.1 s t ha.1 hb.1 f.1 in
    ((λ i. (f.0 i, g.0 i)), g.1)

few-sizes : (n : ℕ) (m : Option Machine) → OkMaybe n m → W32 (length (sizes_of m)) × All WideSizes (sizes_of m)
few-sizes n none h = (omega arith, tt)
few-sizes n (some m) h = (omega arith, ((omega (arith, h.few-rows), omega (arith, h.few-classes)), tt))

abbrev Columns : ℕ → List ℕ → Type 0
Columns n l = (length l ≡ n) × All (λ (c : ℕ). c < 256) l

abbrev Cells : List Entry → Type 0
Cells l = W32 (length l) × All WideEntry l

columns-ok : (n : ℕ) (m : Machine) → OkMachine n m → Columns n m.columns
columns-ok n m h =
    (h.column-count, all_map (λ (c : ℕ). c < m.classes) (λ (c : ℕ). c < 256) (λ (c : ℕ) k. omega (arith, h.few-classes)) m.columns h.columns)

cells-ok : (n : ℕ) (m : Machine) → OkMachine n m → Cells m.cells
cells-ok n m h = (
  omega (arith, h.cell-count, mul-le-mul h.few-rows h.few-classes),
  all_map (OkEntry m.rows) WideEntry (λ (e : Entry) k. (omega (arith, h.few-rows, k.0), k.1)) m.cells h.cells,
)

-- sections 2 to 4
within-free : (n : ℕ) → n < 2 ^ 16 → (ks ks' : List ℕ) (cs cs' : List Entry) (s t : List ℕ) → Columns n ks → Columns n ks' → Cells cs → Cells cs'
    → (run_section 1 ks ++ numbered Entry-discrete entry_code cs) ++ s ≡ (run_section 1 ks' ++ numbered Entry-discrete entry_code cs') ++ t
    → (ks ≡ ks') × (cs ≡ cs') × (s ≡ t)
within-free n hn ks ks' cs cs' s t hk hk' hc hc' e =
    let f = peel (run_section 1) _ (run-section-free 1 n 256 (omega arith) (omega arith)) ks ks' _ _ s t hk hk' e in
    let g = numbered-free Entry-discrete entry_code WideEntry entry_free (record { row = 0; flags = 0 }) cs cs' s t hc hc' f.1 in
    (f.0, g.0, g.1)

pub machine-free : (n : ℕ) → n < 2 ^ 16 → PrefixFree machine_bytes (OkMaybe n)
machine-free n hn a b s t ha hb e =
    let f = peel (counted sizes_code) _ (counted-free sizes_code WideSizes sizes-free) (sizes_of a) (sizes_of b)
    (class_section a ++ numbered Entry-discrete entry_code (cells_of a)) (class_section b ++ numbered Entry-discrete entry_code (cells_of b)) s t (few-sizes n a ha) (few-sizes n b hb) e in
    go a b ha hb f.0 f.1
  where
    go : (a b : Option Machine) → OkMaybe n a → OkMaybe n b → sizes_of a ≡ sizes_of b
        → (class_section a ++ numbered Entry-discrete entry_code (cells_of a)) ++ s ≡ (class_section b ++ numbered Entry-discrete entry_code (cells_of b)) ++ t
        → (a ≡ b) × (s ≡ t)
    go none none ha hb z e = (refl, (within-free 0 (omega arith) [] [] [] [] s t (refl, tt) (refl, tt) (omega arith, tt) (omega arith, tt) e).2)
    go none (some b) ha hb z e = absurd (nil≢cons z)
    go (some a) none ha hb z e = absurd (cons≢nil z)
    go (some a) (some b) ha hb z e =
        let p = head-eq_of_cons-eq z in
        let f = within-free n hn a.columns b.columns a.cells b.cells s t (columns-ok n a ha) (columns-ok n b hb) (cells-ok n a ha) (cells-ok n b hb) e in
        ((λ i. some (record { rows = (p i).0; classes = (p i).1; columns = f.0 i; cells = f.1 i })), f.2)

-- ---- a direction

pub clusters-free : (n : ℕ) → n < 2 ^ 16 → PrefixFree cluster_bytes (λ l. (length l ≡ n) × All OkCluster l)
clusters-free n hn a b s t ha hb e =
    pool-free cluster-discrete (counted pair_code) FewPairs cluster-free [] n hn (omega arith, tt) a b s t
    (ha.0, all_map OkCluster FewPairs few-pairs a ha.1) (hb.0, all_map OkCluster FewPairs few-pairs b hb.1) e

pub lists-free : (n : ℕ) → n < 2 ^ 16 → PrefixFree list_bytes (λ l. (length l ≡ n) × All (OkActions n) l)
lists-free n hn a b s t ha hb e =
    pool-free list-discrete (counted action_code) FewActions list-free [] n hn (omega arith, tt) a b s t
    (ha.0, all_map (OkActions n) FewActions (few-actions n) a ha.1) (hb.0, all_map (OkActions n) FewActions (few-actions n) b hb.1) e

regroup : (a b c d e f g h : List ℕ) → a ++ b ++ c ++ d ++ e ++ f ++ g ++ h ≡ (a ++ (b ++ (c ++ d))) ++ ((e ++ f) ++ (g ++ h))
regroup a b c d e f g h = simp append_assoc

-- the eight sections in three parts: the machine, the clusters, the lists
pub side-parts : (s : Side) → write_side s ≡ machine_bytes s.machine ++ (cluster_bytes s.clusters ++ list_bytes s.lists)
unfolding write_side
side-parts s =
    regroup (machine_section s.machine) (class_section s.machine) (entry_section s.machine) (cell_section s.machine)
    (cluster_section s.clusters) (cluster_run_section s.clusters) (list_section s.lists) (list_run_section s.lists)

pub side-free : (n : ℕ) → n < 2 ^ 16 → PrefixFree write_side (OkSide n)
side-free n hn a b s t ha hb e =
    let e' = ap (λ (l : List ℕ). l ++ s) (sym (side-parts a)) ∙ e ∙ ap (λ (l : List ℕ). l ++ t) (side-parts b) in
    let f1 = peel machine_bytes (OkMaybe n) (machine-free n hn) a.machine b.machine _ _ s t ha.machine hb.machine e' in
    let f2 = peel cluster_bytes _ (clusters-free n hn) a.clusters b.clusters _ _ s t (ha.cluster-count, ha.clusters) (hb.cluster-count, hb.clusters) f1.1 in
    let f3 = lists-free n hn a.lists b.lists s t (ha.list_count, ha.lists) (hb.list_count, hb.lists) f2.1 in
    ((λ i. record { machine = f1.0 i; clusters = f2.0 i; lists = f3.0 i }), f3.1)

-- ---- the sheet

-- valid meanings with equal bytes are equal
pub write-injective : (m m' : Meaning) → Valid m → Valid m' → write m ≡ write m' → m ≡ m'
unfolding write
write-injective m m' v v' e =
    let f1 = be32-free m.glyphs m'.glyphs _ _ (omega (arith, v.few-glyphs)) (omega (arith, v'.few-glyphs)) e in
    let hn : m.glyphs < 2 ^ 16 = omega (arith, v.few-glyphs) in
    let vh = subst (λ (n : ℕ). OkSide n m'.horizontal) (sym f1.0) v'.horizontal in
    let vv = subst (λ (n : ℕ). OkSide n m'.vertical) (sym f1.0) v'.vertical in
    let f2 = side-free m.glyphs hn m.horizontal m'.horizontal (write_side m.vertical) (write_side m'.vertical) v.horizontal vh f1.1 in
    let f3 = side-free m.glyphs hn m.vertical m'.vertical [] [] v.vertical vv
    (append-nil (write_side m.vertical) ∙ f2.1 ∙ sym (append-nil (write_side m'.vertical))) in
    λ i. record { glyphs = f1.0 i; horizontal = f2.0 i; vertical = f3.0 i }

-- what is written for a valid meaning is a sheet
pub is-sheet : (m : Meaning) → Valid m → IsSheet (write m)
unfolding IsSheet
is-sheet m v = (m, v, refl)

-- a sheet has one meaning
pub one-meaning : (bs : List ℕ) (m m' : Meaning) → Valid m → Valid m' → write m ≡ bs → write m' ≡ bs → m ≡ m'
one-meaning bs m m' v v' e e' = write-injective m m' v v' (e ∙ sym e')

-- ---- a direction with nothing in it

pub empty-ok : (n : ℕ) → OkSide n (empty_side n)
unfolding empty_side
empty-ok n =
    record {
      machine = tt;
      cluster-count = length-replicate n [];
      clusters = all_replicate OkCluster n [] (omega arith, tt, tt);
      list_count = length-replicate n [];
      lists = all_replicate (OkActions n) n [] (omega arith, tt);
    }

-- eight counts of 0
pub empty-side : (n : ℕ) → write_side (empty_side n) ≡ replicate 32 0
unfolding empty_side
empty-side n =
    side-parts (empty_side n)
    ∙ ap₂ (λ (a b : List ℕ). machine_bytes none ++ (a ++ b)) (pool-none cluster-discrete [] (counted pair_code) n) (pool-none list-discrete [] (counted action_code) n)

-- the sheet of a table with neither direction
pub empty-sheet : (n : ℕ) → write (record { glyphs = n; horizontal = empty_side n; vertical = empty_side n }) ≡ be32 n ++ replicate 64 0
unfolding write
empty-sheet n = ap (λ (l : List ℕ). be32 n ++ l ++ l) (empty-side n)

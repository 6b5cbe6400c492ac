-- What a party knows is the same where it sees the same.
use Rattle.std.proofs.Common.{◌≡◌, ℕ, Bool, ◌↔◌, List, [], ◌∷◌, ◌++◌, sym, refl, ap, ◌∙◌}
use Rattle.knowledge.specs.Tables.Formulas.{Formula}
use Rattle.knowledge.specs.Truth.Truth.{World, start, copy, told, Model, Classes, kept, Copied, Blurred, copies, Known, True}
use Rattle.knowledge.specs.Truth.Situations.{Setting, starting, Notice, posted, told_to, content, Situation, Sound, Holds, after, after_all}
use Rattle.knowledge.specs.Truth.Rules.{Answer, Call, posts, tells, queries}
use Rattle.knowledge.specs.Truth.Runs.{Event, is_taken, added, taken_in, fates}
use Rattle.knowledge.proofs.Logic.{⊎-iff}
use Rattle.knowledge.proofs.Truth.Asked.{SaysWhatIsKnownBy, says_known, says_known_whether}
use Rattle.knowledge.proofs.Truth.Reordering.{query_adds_nothing}
use Rattle.knowledge.specs.Sets.{Group}

-- the notices taken, from whether each was
abbrev pub taken_by_fate : List (Call × Bool) → List Notice
taken_by_fate [] = []
taken_by_fate (f ∷ fs) = taken_by_fate fs ++ added f.1 f.0

-- the fates of the notices tell which were taken
pub fates_tell : (es : List Event) → taken_in es ≡ taken_by_fate (fates es)
fates_tell [] = refl
fates_tell (e ∷ es) = go e.call e.answer (fates_tell es)
  where
    go : (c : Call) (r : Answer) → taken_in es ≡ taken_by_fate (fates es)
        → taken_in (record { call = c; answer = r } ∷ es) ≡ taken_by_fate (fates (record { call = c; answer = r } ∷ es))
    go (posts t) r h = ap (λ (ns : List Notice). ns ++ added (is_taken r) (posts t)) h
    go (tells g t) r h = ap (λ (ns : List Notice). ns ++ added (is_taken r) (tells g t)) h
    go (queries t) r h = query_adds_nothing (taken_in es) (is_taken r) t ∙ h

-- worlds fall into classes at the start
pub starting_classes : (s : Setting) → Classes (starting s)
starting_classes s = record {
  same = λ i w h p t. refl;
  turn = λ i w v h p t. sym (h p t);
  join = λ i w v u h f p t. h p t ∙ f p t;
}

-- and after a post
kept_classes : (m : Model) (P : World → Type 0) → Classes m → Classes (kept m P)
kept_classes m P c = record { same = λ i w p. c.same i w p.0; turn = c.turn; join = c.join }

-- after a tell nobody tells a world from itself
copies_same : (m : Model) → Classes m → (g : Group) (P : World → Type 0) (i : ℕ) (w : World) → Copied m.present P w → Blurred m.alike g i w w
copies_same m c g P i (start f) p = absurd p
copies_same m c g P i (copy x w) p = (λ _. refl, c.same i w p.0)

-- who does not tell one world from another does not tell the other from it
copies_turn : (m : Model) → Classes m → (g : Group) (i : ℕ) (w v : World) → Blurred m.alike g i w v → Blurred m.alike g i v w
copies_turn m c g i (start f) v h = absurd h
copies_turn m c g i (copy x w) (start f) h = absurd h
copies_turn m c g i (copy x w) (copy y v) h = (λ t. sym (h.0 t), c.turn i w v h.1)

-- and what is not told apart step by step is not told apart
copies_join : (m : Model) → Classes m → (g : Group) (i : ℕ) (w v u : World)
    → Blurred m.alike g i w v → Blurred m.alike g i v u → Blurred m.alike g i w u
copies_join m c g i (start f) v u h k = absurd h
copies_join m c g i (copy x w) (start f) u h k = absurd h
copies_join m c g i (copy x w) (copy y v) (start f) h k = absurd k
copies_join m c g i (copy x w) (copy y v) (copy z u) h k = (λ t. h.0 t ∙ k.0 t, c.join i w v u h.1 k.1)

-- so worlds fall into classes
copies_classes : (m : Model) (g : Group) (P : World → Type 0) → Classes m → Classes (copies m g P)
copies_classes m g P c = record { same = copies_same m c g P; turn = copies_turn m c g; join = copies_join m c g }

-- a notice that is true leaves a sound situation
pub after_sound : (s : Situation) (n : Notice) → Sound s → Holds s (content n) → Sound (after s n)
after_sound s (posted a) h t = (kept_classes s.model (True a s.model) h.0, (h.1, t))
after_sound s (told_to g a) h t = (copies_classes s.model g (True a s.model) h.0, (h.1, λ _. t))

-- a party knows the same at two worlds that it cannot tell apart
known_alike : (m : Model) (i : ℕ) (w v : World) (P : World → Type 0) → Classes m → m.alike i w v → Known m i w P ↔ Known m i v P
known_alike m i w v P c a = (λ h u p b. h u p (c.join i w v u a b), λ h u p b. h u p (c.join i v w u (c.turn i w v a) b))

-- what a party knows is the same at two worlds that it cannot tell apart, and stays so under the same notices
pub known_stays : (m : Model) (i : ℕ) (w v : World) (ns : List Notice) (q : Formula) → Classes m → m.alike i w v → SaysWhatIsKnownBy i q
    → Holds (after_all (record { model = m; actual = w }) ns) q ↔ Holds (after_all (record { model = m; actual = v }) ns) q
known_stays m i w v [] q c a (says_known b) = known_alike m i w v (True b m) c a
known_stays m i w v [] q c a (says_known_whether b) = ⊎-iff (known_alike m i w v (True b m) c a) (known_alike m i w v (λ u. ¬ True b m u) c a)
known_stays m i w v (posted b ∷ ns) q c a k =
    known_stays (kept m (True b m)) i w v ns q (kept_classes m (True b m) c) a k
known_stays m i w v (told_to g b ∷ ns) q c a k =
    known_stays (copies m g (True b m)) i (told w) (told v) ns q (copies_classes m g (True b m) c) (λ _. refl, a) k

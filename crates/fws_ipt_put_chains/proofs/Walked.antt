-- What the rules of a cut's chain give.
use Rattle.std.proofs.Common.{◌≡◌, ◌⊎◌, ℕ, Bool, true, false, ◌||◌, Some, List, [], ◌∷◌, ◌++◌, inl, inr, refl, sym, ◌∙◌, ap, append_assoc}
use Rattle.std.proofs.lemmas.Bool.{cond-true, cond-false, cases_Bool, false≢true, or_parts}
use Rattle.std.specs.List.{AllByRecursion, list_any}
use Rattle.fws_net.specs.declared.condition.Lit.{Lit}
use Rattle.fws_net.specs.declared.packet.Packet.{Packet}
use Rattle.fws_net.specs.declared.site.Site.{Site}
use Rattle.fws_net.specs.Conditions.{holds}
use Rattle.fws_ipt.specs.declared.config.IptGo.{IptGo}
use Rattle.fws_ipt.specs.declared.config.IptRule.{IptRule}
use Rattle.fws_ipt.specs.declared.hook.Hook.{Hook}
use Rattle.fws_ipt.specs.declared.passage.ChainEnd.{ChainEnd}
use Rattle.fws_ipt.specs.declared.passage.Passage.{Passage}
use Rattle.fws_ipt.specs.Walk.{act, rules_walk, view_at}
use Rattle.fws_tree.specs.declared.node.Kid.{Kid}
use Rattle.fws_tree.specs.Plain.{Plain}
use Rattle.fws_tree_seen.specs.declared.field.PacketField.{PacketField}
use Rattle.fws_tree_seen.specs.declared.seen.Seen.{Seen}
use Rattle.fws_tree_seen.specs.Cuts.{kids_of}
use Rattle.fws_tree_seen.specs.Fields.{hits}
use Rattle.fws_tree_seen.specs.Reached.{Reaches, ReachesKid, IsOpen}
use Rattle.fws_tree_seen.specs.Shown.{seen_field}
use Rattle.fws_tree_seen.specs.SightLaws.{SeenFieldsAgree}
use Rattle.fws_ipt_put_chains.specs.declared.coming.Coming.{Coming}
use Rattle.fws_ipt_put_chains.specs.declared.verdict.Verdict.{Verdict}
use Rattle.fws_ipt_put_chains.specs.Branches.{verdict_end}
use Rattle.fws_ipt_put_chains.specs.Pieces.{MayMeet}
use Rattle.fws_ipt_put_chains.specs.Rules.{act_at, rules_of, AreKidRules}

-- a walk ends for a verdict of which something is known
abbrev pub Answers : (Verdict → Type 0) → Passage → ChainEnd → Type 0
Answers R m end = (w : Verdict) × R w × (end ≡ verdict_end w m)

pub answer_same : (R : Verdict → Type 0) (m : Passage) (a b : ChainEnd) → a ≡ b → Answers R m b → Answers R m a
answer_same R m a b e h = (h.0, h.1, e ∙ h.2)

-- rules that do the same: one whose condition holds decides
conds_decide : (enter : ℕ → Passage → ChainEnd) (site : Site) (p : Packet) (is_est : Bool) (hook : Hook) (m : Passage) (R : Verdict → Type 0) (go : IptGo)
    → ((next : Passage → ChainEnd) → Answers R m (act enter next site p hook go m))
    → (conds : List (List Lit)) (rest : List IptRule)
    → list_any (λ cond. holds cond (view_at site is_est hook m)) conds ≡ true → Answers R m (rules_walk enter site p is_est hook (rules_of go conds ++ rest) m)
conds_decide enter site p is_est hook m R go answer [] rest e = absurd (false≢true e)
conds_decide enter site p is_est hook m R go answer (c ∷ conds) rest e =
    let v = view_at site is_est hook m in
    let behind : Passage → ChainEnd = rules_walk enter site p is_est hook (rules_of go conds ++ rest) in
    elim (cases_Bool (holds c v)) [
      | inl y ↦ answer_same R m _ _ (cond-true (holds c v) (act enter behind site p hook go m) (behind m) y) (answer behind)
      | inr n ↦ answer_same R m _ _ (cond-false (holds c v) (act enter behind site p hook go m) (behind m) n)
          (conds_decide enter site p is_est hook m R go answer conds rest (sym (ap (λ b. b || list_any (λ cond. holds cond v) conds) n) ∙ e))
    ]

-- where no condition holds, they are passed
conds_pass : (enter : ℕ → Passage → ChainEnd) (site : Site) (p : Packet) (is_est : Bool) (hook : Hook) (m : Passage) (go : IptGo) (conds : List (List Lit)) (rest : List IptRule)
    → list_any (λ cond. holds cond (view_at site is_est hook m)) conds ≡ false → rules_walk enter site p is_est hook (rules_of go conds ++ rest) m ≡ rules_walk enter site p is_est hook rest m
conds_pass enter site p is_est hook m go [] rest e = refl
conds_pass enter site p is_est hook m go (c ∷ conds) rest e =
    let v = view_at site is_est hook m in
    let behind : Passage → ChainEnd = rules_walk enter site p is_est hook (rules_of go conds ++ rest) in
    let parts = or_parts (holds c v) (list_any (λ cond. holds cond v) conds) e in
    cond-false (holds c v) (act enter behind site p hook go m) (behind m) parts.0 ∙ conds_pass enter site p is_est hook m go conds rest parts.1

-- the rules of kids: where one is hit, its act decides, and else they are passed
pub walk_kids : SeenFieldsAgree → (enter : ℕ → Passage → ChainEnd) (site : Site) (p : Packet) (is_est : Bool) (hook : Hook) (m : Passage)
    (seen : Seen) (f : ℕ) (field : PacketField) (coming : Coming) (acts : List IptGo) (tree : ℕ → Plain Verdict)
    → seen_field seen f ≡ Some field → MayMeet coming field (view_at site is_est hook m)
    → (kids : List Kid) (rules rest : List IptRule) → AreKidRules coming field acts kids rules
    → AllByRecursion (λ kid. IsOpen seen m.packet f kid.set → (next : Passage → ChainEnd) → Answers (Reaches seen m.packet (tree kid.node)) m (act enter next site p hook (act_at acts kid.node) m)) kids
    → Answers (ReachesKid seen m.packet f (kids_of tree kids)) m (rules_walk enter site p is_est hook (rules ++ rest) m)
    ⊎ ((list_any (λ kid. hits field kid.set m.packet) kids ≡ false) × (rules_walk enter site p is_est hook (rules ++ rest) m ≡ rules_walk enter site p is_est hook rest m))
walk_kids agree enter site p is_est hook m seen f field coming acts tree is meets [] rules rest made each =
    inr (refl, ap (λ l. rules_walk enter site p is_est hook (l ++ rest) m) made)
walk_kids agree enter site p is_est hook m seen f field coming acts tree is meets (k ∷ kids) rules rest made each =
    let conds = made.0 in
    let more = made.1 in
    let go : IptGo = act_at acts k.node in
    let q = m.packet in
    let same : rules_walk enter site p is_est hook (rules ++ rest) m ≡ rules_walk enter site p is_est hook (rules_of go conds ++ (more ++ rest)) m =
    ap (λ l. rules_walk enter site p is_est hook (l ++ rest) m) made.2 ∙ ap (λ l. rules_walk enter site p is_est hook l m) (append_assoc (rules_of go conds) more rest) in
    let hit = made.3.hit (view_at site is_est hook m) meets in
    let later = walk_kids agree enter site p is_est hook m seen f field coming acts tree is meets kids more rest made.4 each.1 in
    elim (cases_Bool (hits field k.set q)) [
      | inl y ↦ (let open' : IsOpen seen q f k.set = (agree seen f field is).open_hit q k.set y in
          let found = conds_decide enter site p is_est hook m (Reaches seen q (tree k.node)) go (each.0 open') conds (more ++ rest) (hit ∙ y) in
          inl (found.0, inl (open', found.1), same ∙ found.2))
      | inr n ↦ (let passed = same ∙ conds_pass enter site p is_est hook m go conds (more ++ rest) (hit ∙ n) in
          elim later [
            | inl a ↦ inl (a.0, inr a.1, passed ∙ a.2)
            | inr b ↦ inr (ap (λ x. x || list_any (λ kid. hits field kid.set q) kids) n ∙ b.0, passed ∙ b.1)
          ])
    ]

-- Blocks of translations, put together.
use Rattle.std.proofs.Common.{◌≡◌, ◌⊎◌, ℕ, zero, suc, ◌+◌, ◌-◌, ◌^◌, ◌<◌, ◌≤◌, Bool, true, false, ◌&&◌, ◌||◌, not, cond, Option, Some, None, List, [], ◌∷◌, ◌++◌, length, drop, get_or, slice_get, inl, inr, refl, sym, ◌∙◌, ap, subst, arith, append_assoc}
use Rattle.std.proofs.lemmas.Bool.{and_from, or_parts, cases_Bool, cond-true, cond-false, false≢true}
use Rattle.std.proofs.lemmas.List.{drop_more}
use Rattle.std.proofs.lemmas.List.Elements.{All-head, All-tail}
use Rattle.std.proofs.lemmas.List.Folds.{list_all-append}
use Rattle.std.specs.Prelude.{slice_index, All}
use Rattle.fws_net.specs.declared.outcome.End.{End}
use Rattle.fws_net.specs.declared.outcome.Outcome.{Outcome}
use Rattle.fws_net.specs.declared.packet.Packet.{Packet}
use Rattle.fws_net.specs.declared.transit.Transit.{Transit}
use Rattle.fws_net.specs.Conditions.{holds}
use Rattle.fws_net.specs.Fates.{has_ports}
use Rattle.fws_pf.specs.declared.config.PfNat.{PfNat}
use Rattle.fws_pf.specs.Walk.{chosen, view_on}
use Rattle.fws_tree_seen.specs.SightLaws.{ReachedValuesAreTold}
use Rattle.fws_tree.specs.declared.node.Kid.{Kid}
use Rattle.fws_tree.specs.declared.node.Node.TheVariants.{Cut}
use Rattle.fws_pf_put_nat.specs.declared.ends.Ends.{Ends}
use Rattle.fws_pf_put_nat.specs.declared.ends.Ends.TheVariants.{One, Many}
use Rattle.fws_pf_put_nat.specs.declared.path.Path.{Path}
use Rattle.fws_pf_put_nat.specs.declared.side.Side.TheVariants.{Entry, Proto, Dst, Dport, Src, Sport}
use Rattle.fws_pf_put_nat.specs.declared.turn.Turn.{Turn}
use Rattle.fws_pf_put_nat.specs.Scenes.{below, CutsFrom, GetsNoEnd, IsCome, IsFine, IsPlanned, IsRootNode, Meets, Scene}
use Rattle.fws_pf_put_nat.specs.Turns.{some_turn_has, AreTurnRules, AreTurns, Leads}
use Rattle.fws_pf_put_nat.specs.Blocks.{are_printed, root_nats, AreNodeRules, IsLedBy, IsPassed}
use Rattle.fws_pf_put_nat.specs.Ends.{IsAccepted, IsRoot, IsSettledAt, Tells}
use Rattle.fws_pf_put_nat.specs.Paths.{nat_of, no_parts, path_has, some_path_has, IsGoodPath}
use Rattle.fws_pf_print.specs.Printable.{is_printed_translation}
use Rattle.fws_pf_put_nat.specs.Translations.{IsTranslations}
use Rattle.fws_pf_put_nat.specs.Writings.{nats_of, over, port_suits, AreEndPaths, EndFits, EndHasRoom, IsPrintedPath}
use Rattle.fws_pf_put_nat.proofs.Coming.{come_start, has_its_ports, no_source_port, none_by, not_many}
use Rattle.fws_pf_put_nat.proofs.Laws.{NodeLaws}
use Rattle.fws_pf_put_nat.proofs.Leading.{led_end, led_root}
use Rattle.fws_pf_put_nat.proofs.Pathing.{cond_holds, end_nat_printed, root_printed}

-- ---- the first translation that matches

matched : (s : Scene) (nat : PfNat) (nats : List PfNat) (m : Transit) → holds nat.cond (view_on s.site s.outward m) ≡ true → chosen s.site s.outward (nat ∷ nats) m ≡ Some nat
matched s nat nats m h = cond-true (holds nat.cond (view_on s.site s.outward m)) (Some nat) (chosen s.site s.outward nats m) h

unmatched : (s : Scene) (nat : PfNat) (nats : List PfNat) (m : Transit) → holds nat.cond (view_on s.site s.outward m) ≡ false → chosen s.site s.outward (nat ∷ nats) m ≡ chosen s.site s.outward nats m
unmatched s nat nats m h = cond-false (holds nat.cond (view_on s.site s.outward m)) (Some nat) (chosen s.site s.outward nats m) h

-- ---- packets that get no end

pub root_rules : (s : Scene) (at : ℕ) (path : Path) (falls : Bool) → IsPlanned s → IsPrintedPath s.site path → (s.outward ≡ true → path.entry ≡ None) → ((p : Packet) → IsFine s p → Meets s at p → GetsNoEnd s p)
    → AreNodeRules s at path falls (root_nats path falls (slice_index s.states s.start))
root_rules s at path true planned printed entry none = record {
  printed = refl;
  passes = λ m rest fine off. refl;
  decides = λ m rest fine on meets. inr ((refl, none m.packet fine meets), refl);
}
root_rules s at path false planned printed entry none =
    let nat : PfNat = nat_of path None (slice_index s.states s.start) in record {
      printed = and_from (is_printed_translation s.site (not s.outward) nat) true (root_printed s.site (not s.outward) path (slice_index s.states s.start) printed) refl;
      passes = λ m rest fine off. unmatched s nat rest m (cond_holds s.site s.outward m path entry ∙ off);
      decides = λ m rest fine on meets. inl (nat, matched s nat rest m (cond_holds s.site s.outward m path entry ∙ on), led_root s path m.packet planned fine (none m.packet fine meets));
    }

-- ---- packets that get an end

nats_printed : (s : Scene) (paths : List Path) (e : End) (tag : ℕ) → EndHasRoom e → All (IsPrintedPath s.site) paths → All (EndFits s.outward e) paths → are_printed s (nats_of paths e tag) ≡ true
nats_printed s [] e tag room printed fits = refl
nats_printed s (x ∷ paths) e tag room printed fits =
    and_from (is_printed_translation s.site (not s.outward) (nat_of x (Some e) tag)) (are_printed s (nats_of paths e tag))
    (end_nat_printed s.site s.outward x e tag (All-head (IsPrintedPath s.site) x paths printed) room (All-head (EndFits s.outward e) x paths fits))
    (nats_printed s paths e tag room (All-tail (IsPrintedPath s.site) x paths printed) (All-tail (EndFits s.outward e) x paths fits))

entry_none : (s : Scene) (path x : Path) → (s.outward ≡ true → path.entry ≡ None) → x.entry ≡ path.entry → s.outward ≡ true → x.entry ≡ None
entry_none s path x h e out = e ∙ h out

nats_passed : (s : Scene) (path : Path) (paths : List Path) (e : End) (tag : ℕ) (m : Transit) (rest : List PfNat) → (s.outward ≡ true → path.entry ≡ None) → All (λ x. x.entry ≡ path.entry) paths
    → some_path_has paths m.packet ≡ false → IsPassed s (nats_of paths e tag) rest m
nats_passed s path [] e tag m rest entry same off = refl
nats_passed s path (x ∷ paths) e tag m rest entry same off =
    let parts = or_parts (path_has x m.packet) (some_path_has paths m.packet) off in
    unmatched s (nat_of x (Some e) tag) (nats_of paths e tag ++ rest) m
    (cond_holds s.site s.outward m x (entry_none s path x entry (All-head (λ (y : Path). y.entry ≡ path.entry) x paths same)) ∙ parts.0)
    ∙ nats_passed s path paths e tag m rest entry (All-tail (λ (y : Path). y.entry ≡ path.entry) x paths same) parts.1

-- a translation of one of the paths is the first that matches
record IsMatched (s : Scene) (e : End) (tag : ℕ) (m : Transit) (nats : List PfNat) : Type 0 where
  pub path : Path
  pub first : chosen s.site s.outward nats m ≡ Some (nat_of path (Some e) tag)

nats_matched : (s : Scene) (path : Path) (paths : List Path) (e : End) (tag : ℕ) (m : Transit) (rest : List PfNat) → (s.outward ≡ true → path.entry ≡ None) → All (λ x. x.entry ≡ path.entry) paths
    → some_path_has paths m.packet ≡ true → IsMatched s e tag m (nats_of paths e tag ++ rest)
nats_matched s path [] e tag m rest entry same on = absurd (false≢true on)
nats_matched s path (x ∷ paths) e tag m rest entry same on =
    let is = cond_holds s.site s.outward m x (entry_none s path x entry (All-head (λ (y : Path). y.entry ≡ path.entry) x paths same)) in
    elim (cases_Bool (path_has x m.packet)) [
      | inl y ↦ record { path = x; first = matched s (nat_of x (Some e) tag) (nats_of paths e tag ++ rest) m (is ∙ y) }
      | inr n ↦ (let later : some_path_has paths m.packet ≡ true = sym (ap (λ b. b || some_path_has paths m.packet) n) ∙ on in
          let r = nats_matched s path paths e tag m rest entry (All-tail (λ (y : Path). y.entry ≡ path.entry) x paths same) later in
          record { path = r.path; first = unmatched s (nat_of x (Some e) tag) (nats_of paths e tag ++ rest) m (is ∙ n) ∙ r.first })
    ]

-- the port suits a packet that comes to a node with the end
suits_port : (laws : NodeLaws) (s : Scene) (at : ℕ) (p : Packet) (e : End) → IsPlanned s → at < length s.nodes → IsFine s p → IsCome s at p → CutsFrom s at 4 → Tells s.outward (IsAccepted (below s at)) (One (Some e))
    → (o : Option ℕ) → e.port ≡ o → port_suits s.outward o p ≡ true
suits_port laws s at p e planned lt fine come late tells None there = refl
suits_port laws s at p e planned lt fine come late tells (Some port) there = elim (cases_Bool s.outward) [
  | inl y ↦ absurd (no_source_port laws s at p e port planned lt fine come late there tells y)
  | inr n ↦ and_from (not s.outward) (has_ports p.proto) (ap not n) (has_its_ports laws s at p e port planned lt come late there tells n)
]

over_low : (s : Scene) (p : Packet) → IsPlanned s → IsFine s p → over s.outward p < 2 ^ 32
over_low s p planned fine = by s.outward
  where
    less : (n : ℕ) → n ≤ 2 ^ 32 - 1 → n < 2 ^ 32
    less n le = omega (arith, le)

    by : (outward : Bool) → over outward p < 2 ^ 32
    by true = less p.src (subst (λ l. p.src ≤ slice_index l 4) planned.tops_are (fine.topped 4 p.src refl refl))
    by false = less p.dst (subst (λ l. p.dst ≤ slice_index l 2) planned.tops_are (fine.topped 2 p.dst refl refl))

pub end_rules : (laws : NodeLaws) (s : Scene) (at : ℕ) (path : Path) (falls : Bool) (e : End) (paths : List Path) → IsPlanned s → at < length s.nodes → CutsFrom s at (cond s.outward 5 4) → CutsFrom s at 4
    → (s.outward ≡ true → path.entry ≡ None) → EndHasRoom e → slice_get s.ends at ≡ Some (One (Some e)) → AreEndPaths s.site s.outward e path paths
    → AreNodeRules s at path falls (nats_of paths e (slice_index s.states at))
end_rules laws s at path falls e paths planned lt low late entry room is h =
    let tag : ℕ = slice_index s.states at in
    let tells : Tells s.outward (IsAccepted (below s at)) (One (Some e)) = planned.ends.each at (One (Some e)) is in record {
      printed = nats_printed s paths e tag room h.printed h.fits;
      passes = λ m rest fine off. nats_passed s path paths e tag m rest entry h.entry
          (h.same m.packet (over_low s m.packet planned fine) ∙ ap (λ b. b && port_suits s.outward e.port m.packet) off);
      decides = λ m rest fine on meets. elim meets [
        | inl come ↦ (let r = nats_matched s path paths e tag m rest entry h.entry (h.same m.packet (over_low s m.packet planned fine)
            ∙ and_from (path_has path m.packet) (port_suits s.outward e.port m.packet) on (suits_port laws s at m.packet e planned lt fine come late tells e.port refl)) in
            inl (nat_of r.path (Some e) tag, r.first, led_end laws s r.path m.packet at e planned lt come low tells))
        | inr root ↦ absurd (root.0 (One (Some e)) is)
      ];
    }

-- ---- nodes whose ends are settled

-- at a cut the ends are settled
abbrev pub IsSettled : Scene → ℕ → Type 0
IsSettled s at = (f : ℕ) (kids : List Kid) (e : Ends) → slice_get s.nodes at ≡ Some (Cut f kids) → slice_get s.ends at ≡ Some e → IsSettledAt s.outward f e

pub root_none : (laws : NodeLaws) → ReachedValuesAreTold Outcome → (s : Scene) (at : ℕ) (e : Ends) → IsPlanned s → slice_get s.ends at ≡ Some e → IsRoot e → (p : Packet) → IsFine s p → Meets s at p → GetsNoEnd s p
root_none laws told s at e planned is root p fine (inl come) = none_by laws told s at p e planned come (planned.ends.each at e is) root
root_none laws told s at e planned is root p fine (inr other) = other.1

pub many_none : (laws : NodeLaws) (s : Scene) (at : ℕ) → IsPlanned s → at < length s.nodes → IsSettled s at → slice_get s.ends at ≡ Some Many → (p : Packet) → IsFine s p → Meets s at p → GetsNoEnd s p
many_none laws s at planned lt settled is p fine (inl come) = absurd (not_many laws s at p planned lt fine come (λ f kids cuts. settled f kids Many cuts is) (planned.ends.each at Many is))
many_none laws s at planned lt settled is p fine (inr other) = other.1

pub end_low : (s : Scene) (at : ℕ) (e : End) → IsSettled s at → slice_get s.ends at ≡ Some (One (Some e)) → CutsFrom s at (cond s.outward 5 4)
end_low s at e settled is = λ f kids cuts. settled f kids (One (Some e)) cuts is

pub end_late : (s : Scene) (at : ℕ) → CutsFrom s at (cond s.outward 5 4) → CutsFrom s at 4
end_late s at h = λ f kids cuts. by s.outward f (h f kids cuts)
  where
    by : (b : Bool) (f : ℕ) → cond b 5 4 ≤ f → 4 ≤ f
    by true f le = omega (arith, le)
    by false f le = le

-- ---- turns

pub no_turn_rules : (s : Scene) (falls : Bool) (turns : List Turn) → AreTurnRules s falls turns 0 []
no_turn_rules s falls turns = record {
  printed = refl;
  passes = λ m rest fine off. refl;
  decides = λ m rest fine h. inr (h, refl);
}

turn_off : (turns : List Turn) (n : ℕ) (d : Turn) (p : Packet) → n < length turns → some_turn_has turns p ≡ false → path_has (get_or turns n d).path p ≡ false
turn_off [] n d p lt off = absurd (omega (arith, lt))
turn_off (t ∷ turns) zero d p lt off = (or_parts (path_has t.path p) (some_turn_has turns p) off).0
turn_off (t ∷ turns) (suc n) d p lt off = turn_off turns n d p (omega (arith, lt)) (or_parts (path_has t.path p) (some_turn_has turns p) off).1

pub turn_rules_more : (s : Scene) (falls : Bool) (turns : List Turn) (n : ℕ) (d : Turn) (a b : List PfNat) → n < length turns → AreTurnRules s falls turns n a
    → AreNodeRules s (get_or turns n d).node (get_or turns n d).path (get_or turns n d).falls b → AreTurnRules s falls turns (n + 1) (a ++ b)
turn_rules_more s falls turns n d a b lt h g =
    let next : drop n turns ≡ get_or turns n d ∷ drop (n + 1) turns = drop_more turns n d lt in record {
      printed = list_all-append (is_printed_translation s.site (not s.outward)) a b ∙ and_from (are_printed s a) (are_printed s b) h.printed g.printed;
      passes = λ m rest fine off.
          ap (λ l. chosen s.site s.outward l m) (append_assoc a b rest) ∙ h.passes m (b ++ rest) fine off ∙ g.passes m rest fine (turn_off turns n d m.packet lt off);
      decides = λ m rest fine leads.
          let whole : chosen s.site s.outward ((a ++ b) ++ rest) m ≡ chosen s.site s.outward (a ++ (b ++ rest)) m = ap (λ l. chosen s.site s.outward l m) (append_assoc a b rest) in
          elim (h.decides m (b ++ rest) fine leads) [
            | inl led ↦ inl (led.0, whole ∙ led.1, led.2)
            | inr on ↦ by m rest fine whole on.1 (subst (λ l. Leads s falls m.packet l) next on.0)
          ];
    }
  where
    by : (m : Transit) (rest : List PfNat) → IsFine s m.packet → chosen s.site s.outward ((a ++ b) ++ rest) m ≡ chosen s.site s.outward (a ++ (b ++ rest)) m → IsPassed s a (b ++ rest) m
        → Leads s falls m.packet (get_or turns n d ∷ drop (n + 1) turns) → IsLedBy s (a ++ b) rest m ⊎ (Leads s falls m.packet (drop (n + 1) turns) × IsPassed s (a ++ b) rest m)
    by m rest fine whole passed (inl here) = elim (g.decides m rest fine here.0 here.1) [
      | inl led ↦ inl (led.0, whole ∙ passed ∙ led.1, led.2)
      | inr on ↦ inr (here.2 on.0, whole ∙ passed ∙ on.1)
    ]
    by m rest fine whole passed (inr there) = inr (there.1, whole ∙ passed ∙ g.passes m rest fine there.0)

pub drop_whole : (turns : List Turn) → drop (length turns) turns ≡ []
drop_whole [] = refl
drop_whole (t ∷ turns) = drop_whole turns

-- the translations of all turns of a cut are those of its node
pub cut_rules : (s : Scene) (at : ℕ) (path : Path) (falls : Bool) (turns : List Turn) (block : List PfNat) → AreTurns s at path falls turns → (IsRootNode s at → ⊥) → (drop (length turns) turns ≡ [])
    → AreTurnRules s falls turns (length turns) block → AreNodeRules s at path falls block
cut_rules s at path falls turns block made open' end h = record {
  printed = h.printed;
  passes = λ m rest fine off. h.passes m rest fine (made.none m.packet fine off);
  decides = λ m rest fine on meets. elim meets [
    | inl come ↦ elim (h.decides m rest fine (made.leads m.packet fine on come)) [
      | inl led ↦ inl led
      | inr done ↦ inr (subst (λ l. Leads s falls m.packet l) end done.0, done.1)
    ]
    | inr root ↦ absurd (open' root.0)
  ];
}

-- ---- the whole list

pub whole_list : (s : Scene) (block : List PfNat) → IsPlanned s → AreNodeRules s s.start no_parts true block
    → IsTranslations s.site s.tops s.tree s.leaves s.nodes s.states s.outward (block ++ nat_of no_parts None (slice_index s.states s.start) ∷ [])
whole_list s block planned h =
    let last : PfNat = nat_of no_parts None (slice_index s.states s.start) in record {
      printed = list_all-append (is_printed_translation s.site (not s.outward)) block (last ∷ [])
          ∙ and_from (are_printed s block) (are_printed s (last ∷ [])) h.printed
          (and_from (is_printed_translation s.site (not s.outward) last) true (root_printed s.site (not s.outward) no_parts (slice_index s.states s.start) no_parts_printed) refl);
      decides = λ m rest topped met.
          let fine : IsFine s m.packet = record { topped = topped; met = met } in
          let whole : chosen s.site s.outward ((block ++ last ∷ []) ++ rest) m ≡ chosen s.site s.outward (block ++ last ∷ rest) m = ap (λ l. chosen s.site s.outward l m) (append_assoc block (last ∷ []) rest) in
          elim (h.decides m (last ∷ rest) fine refl (inl (come_start s m.packet planned fine))) [
            | inl led ↦ (led.0, whole ∙ led.1, led.2)
            | inr on ↦ (last, whole ∙ on.1 ∙ matched s last rest m refl, led_root s no_parts m.packet planned fine on.0.1)
          ];
    }
  where
    no_parts_printed : IsPrintedPath s.site no_parts
    no_parts_printed Entry = refl
    no_parts_printed Proto = refl
    no_parts_printed Dst = refl
    no_parts_printed Dport = refl
    no_parts_printed Src = refl
    no_parts_printed Sport = refl

-- a path on which nothing is asked of the fields from a later one on
pub good_later : (s : Scene) (from to : ℕ) (path : Path) → from ≤ to → IsGoodPath s.site s.outward from path → IsGoodPath s.site s.outward to path
good_later s from to path le h = record { printed = h.printed; free = λ side low. h.free side (omega (arith, low, le)); entry = h.entry }

-- The choices of packets are those of the tables.
use Rattle.std.proofs.Common.{◌≡◌, ◌⊎◌, inl, inr, ℕ, ◌≤◌, Bool, true, false, ◌&&◌, ◌||◌, not, cond, nat_eq, Option, Some, List, refl, sym, ap, ◌∙◌, arith, subst}
use Rattle.std.proofs.lemmas.Bool.{and_parts, eqb-true, false≢true, false_from_ne_true, true≢false}
use Rattle.std.specs.Prelude.{◌↔◌, unwrap_or}
use Rattle.fws_net.specs.declared.connection.Rec.{Rec}
use Rattle.fws_net.specs.declared.exit.Exit.TheVariants.{Deliver, Out, Lost}
use Rattle.fws_net.specs.declared.outcome.Outcome.{Outcome}
use Rattle.fws_net.specs.declared.outcome.Outcome.TheVariants.{Drop, Accept}
use Rattle.fws_net.specs.declared.outcome.Rewrite.{Rewrite}
use Rattle.fws_net.specs.declared.packet.Packet.{Packet}
use Rattle.fws_net.specs.declared.site.Site.{Site}
use Rattle.fws_net.specs.Routes.{exit_at, is_local, route_of}
use Rattle.fws_tree.specs.declared.tables.Tables.{Tables}
use Rattle.fws_tree.specs.Plain.{Plain}
use Rattle.fws_place.specs.Clauses.{has_ack_or_rst}
use Rattle.fws_place.specs.Meaning.{IsPacketOf, IsPairOf, new_of, point_of}
use Rattle.fws_place.specs.Pairs.{is_host}
use Rattle.fws_place.specs.Rewritings.{is_accepted}
use Rattle.fws_place.specs.Seen.{IsAcceptedSomewhere}
use Rattle.fws_ios_put.specs.declared.choices.Choices.{Choices}
use Rattle.fws_ios_put.specs.Choices.{AreMadeOf, AreOfEntry, IsAskedAt, IsChosen, TellsKnown, TellsNew, framed, is_stray, is_tcp, said_at, truth}
use Rattle.fws_ios_put.proofs.Deciding.{arrives_by}
use Rattle.fws_ios_put.proofs.Known.{Known}

-- Exits

-- an arriving packet with a stray destination is lost, and no other is
stray_lost : (site : Site) (p : Packet) (r : Rec) → is_host p ≡ false → is_stray site (point_of p r) ≡ true → exit_at site p.entry p.dst ≡ Lost
stray_lost site p r arrives stray = ap (λ h. cond h (cond (is_local site p.dst) (Out 1) (Out (route_of site p.dst))) (cond (is_local site p.dst) Deliver (cond site.forwarding (Out (route_of site p.dst)) Lost))) arrives
    ∙ by site.forwarding (is_local site p.dst) stray where
      by : (f l : Bool) → (not f && not l) ≡ true → cond l Deliver (cond f (Out (route_of site p.dst)) Lost) ≡ Lost
      by true l h = absurd (false≢true h)
      by false true h = absurd (false≢true h)
      by false false h = refl

lost_stray : (site : Site) (p : Packet) (r : Rec) → is_host p ≡ false → is_stray site (point_of p r) ≡ false → exit_at site p.entry p.dst ≡ Lost → ⊥
lost_stray site p r arrives stray lost = by site.forwarding (is_local site p.dst) stray
    (sym (ap (λ h. cond h (cond (is_local site p.dst) (Out 1) (Out (route_of site p.dst))) (cond (is_local site p.dst) Deliver (cond site.forwarding (Out (route_of site p.dst)) Lost))) arrives) ∙ lost) where
      by : (f l : Bool) → (not f && not l) ≡ false → cond l Deliver (cond f (Out (route_of site p.dst)) Lost) ≡ Lost → ⊥
      by f true h e = cc
      by true false h e = cc
      by false false h e = true≢false h

-- Outcomes

accepted_is : (o : Outcome) → is_accepted o ≡ true → (w : Rewrite) × (o ≡ Accept w)
accepted_is Drop h = absurd (false≢true h)
accepted_is (Accept w) h = (w, refl)

dropped_is : (o : Outcome) → is_accepted o ≡ false → o ≡ Drop
dropped_is Drop h = refl
dropped_is (Accept w) h = absurd (true≢false h)

-- the packet with other flags is one of the site
with_flags : (site : Site) (p : Packet) (r : Rec) (f : ℕ) → f ≤ 63 → IsPairOf site p r → IsPairOf site (record p { flags = f }) r
with_flags site p r f low w = (w.0, (w.1.0, (w.1.1.0, (w.1.1.1.0, (w.1.1.1.1.0, (w.1.1.1.1.1.0, (low, w.1.1.1.1.1.1.1)))))))

-- the ends of a pair don't count for its packet
pub packet_of_pair : (site : Site) (p : Packet) (r : Rec) → IsPairOf site p r → IsPacketOf site p
packet_of_pair site p r w = (
  w.0,
  (w.1.0, (w.1.1.0, (w.1.1.1.0, (w.1.1.1.1.0, (w.1.1.1.1.1.0, (w.1.1.1.1.1.1.0, (w.1.1.1.1.1.1.1.0, (omega arith, (omega arith, (omega arith, (omega arith, tt))))))))))),
)

module _ (site : Site) (tables : Tables) (known : Known site tables) (n k : List ℕ × Plain Bool) (tells_n : TellsNew site tables n) (tells_k : TellsKnown site tables k)
    (c : Choices) (p : Packet) (r : Rec) (made : AreMadeOf site n.1 k.1 p.entry c) (of_site : IsPairOf site p r) (arrives : is_host p ≡ false) where
  abbrev x : List ℕ
  x = point_of p r

  -- the packet with other flags
  abbrev flagged : ℕ → Packet
  flagged f = record p { flags = f }

  pair : (f : ℕ) → f ≤ 63 → IsPairOf site (flagged f) r
  pair f low = with_flags site p r f low of_site

  new_is : (f : ℕ) → f ≤ 63 → truth n.1 (framed p.entry f x) ≡ is_accepted (new_of tables (flagged f))
  new_is f low = ap (λ (o : Option Bool). unwrap_or o false) (tells_n.tells (flagged f) r (pair f low))

  known_is : (f : ℕ) → f ≤ 63 → (truth k.1 (framed p.entry f x) ≡ true) ↔ IsAcceptedSomewhere site tables (flagged f)
  known_is f low =
      let here = tells_k.tells.tells (flagged f) r (pair f low) in
      let is : truth k.1 (framed p.entry f x) ≡ here.0 = ap (λ (o : Option Bool). unwrap_or o false) here.1 in
      ((λ h. here.2.0 (sym is ∙ h)), λ h. is ∙ here.2.1 h)

  goes_on : (f : ℕ) → f ≤ 63 → truth n.1 (framed p.entry f x) ≡ true → truth k.1 (framed p.entry f x) ≡ true
  goes_on f low h =
      let w = accepted_is (new_of tables (flagged f)) (sym (new_is f low) ∙ h) in
      (known_is f low).1 (known.goes_on (flagged f) w.0 (packet_of_pair site (flagged f) r (pair f low)) arrives w.1)

  low0 : 0 ≤ 63
  low0 = omega arith

  low16 : 16 ≤ 63
  low16 = omega arith

  fresh : Bool
  fresh = truth c.fresh.1 x

  -- what is known of ACK: packets with these flags are as those with ACK alone, or without any
  tcp_flags : has_ack_or_rst p ≡ true → is_accepted (new_of tables p) ≡ is_accepted (new_of tables (flagged 16))
  tcp_flags h = known.new_by_ack p (flagged 16) (packet_of_pair site p r of_site) (packet_of_pair site (flagged 16) r (pair 16 low16)) arrives refl h

  tcp_no_flags : has_ack_or_rst p ≡ false → is_accepted (new_of tables p) ≡ is_accepted (new_of tables (flagged 0))
  tcp_no_flags h = known.new_by_ack p (flagged 0) (packet_of_pair site p r of_site) (packet_of_pair site (flagged 0) r (pair 0 low0)) arrives refl h

  other_new : nat_eq p.proto 6 ≡ false → is_accepted (new_of tables p) ≡ is_accepted (new_of tables (flagged 0))
  other_new other =
      some_is (sym (tells_n.tells p r of_site) ∙ sym (tells_n.told.lacking 6 x of_site other 0 low0) ∙ tells_n.tells (flagged 0) r (pair 0 low0)) where
        some_is : {a b : Bool} → Some a ≡ Some b → a ≡ b
        some_is h = cc

  known_to : (f : ℕ) → f ≤ 63 → has_ack_or_rst p ≡ has_ack_or_rst (flagged f) → IsAcceptedSomewhere site tables p → IsAcceptedSomewhere site tables (flagged f)
  known_to f low h = known.known_by_ack p (flagged f) (packet_of_pair site p r of_site) (packet_of_pair site (flagged f) r (pair f low)) arrives refl h

  known_from : (f : ℕ) → f ≤ 63 → has_ack_or_rst p ≡ has_ack_or_rst (flagged f) → IsAcceptedSomewhere site tables (flagged f) → IsAcceptedSomewhere site tables p
  known_from f low h = known.known_by_ack (flagged f) p (packet_of_pair site (flagged f) r (pair f low)) (packet_of_pair site p r of_site) arrives refl (sym h)

  -- the value of the tree of known packets at the packet itself
  known_here : (truth k.1 x ≡ true) ↔ IsAcceptedSomewhere site tables p
  known_here =
      let here = tells_k.tells.tells p r of_site in
      let is : truth k.1 x ≡ here.0 = ap (λ (o : Option Bool). unwrap_or o false) here.1 in
      ((λ h. here.2.0 (sym is ∙ h)), λ h. is ∙ here.2.1 h)

  other_known : nat_eq p.proto 6 ≡ false → truth k.1 (framed p.entry 0 x) ≡ truth k.1 x
  other_known other = ap (λ (o : Option Bool). unwrap_or o false) (tells_k.told.lacking 6 x of_site other 0 low0)

  -- Facts

  acked_parts : (a t s e q : Bool) → (a || (t && (s && (e && not q)))) ≡ true → (a ≡ true) ⊎ (e ≡ true)
  acked_parts true t s e q h = inl refl
  acked_parts false true true true q h = inr refl
  acked_parts false true true false q h = absurd (false≢true h)
  acked_parts false true false e q h = absurd (false≢true h)
  acked_parts false false s e q h = absurd (false≢true h)

  acked_go : truth c.acked_fresh.1 x ≡ true → truth c.acked_known.1 x ≡ true
  acked_go h =
      elim (acked_parts (truth n.1 (framed p.entry 16 x)) (is_tcp x) (is_stray site x) (truth c.acked_known.1 x) (truth c.known.1 x) (sym (made.acked_fresh x of_site) ∙ h)) [
        | inl new ↦ made.acked_known x of_site ∙ goes_on 16 low16 new
        | inr old ↦ old
      ]

  -- a packet with ACK that isn't new is lost or accepted without ACK
  unless : (a t s e q : Bool) → t ≡ true → e ≡ true → (a || (t && (s && (e && not q)))) ≡ false → q ≡ false → (a ≡ false) × (s ≡ false)
  unless true t s e q tcp some_known h none = absurd (true≢false h)
  unless false true true true true tcp some_known h none = absurd (true≢false none)
  unless false true true true false tcp some_known h none = absurd (true≢false h)
  unless false true true false q tcp some_known h none = absurd (false≢true some_known)
  unless false true false e q tcp some_known h none = (refl, refl)
  unless false false s e q tcp some_known h none = absurd (false≢true tcp)

  ahead : is_tcp x ≡ true → truth c.acked_known.1 x ≡ true → truth c.acked_fresh.1 x ≡ false → truth c.known.1 x ≡ true
  ahead tcp old dropped = by (truth c.known.1 x) refl where
    by : (b : Bool) → truth c.known.1 x ≡ b → truth c.known.1 x ≡ true
    by true is = is
    by false is =
        let both = unless (truth n.1 (framed p.entry 16 x)) (is_tcp x) (is_stray site x) (truth c.acked_known.1 x) (truth c.known.1 x) tcp old (sym (made.acked_fresh x of_site) ∙ dropped) is in
        let somewhere = known.ahead (flagged 16) (flagged 0) (truth k.1 (framed p.entry 0 x)) (packet_of_pair site (flagged 16) r (pair 16 low16)) (packet_of_pair site (flagged 0) r (pair 0 low0)) arrives
        (lost_stray site (flagged 16) r arrives both.1) (eqb-true p.proto 6 tcp) refl refl refl
        (dropped_is (new_of tables (flagged 16)) (sym (new_is 16 low16) ∙ both.0))
        ((known_is 16 low16).0 (sym (made.acked_known x of_site) ∙ old)) (known_is 0 low0) in
        made.known x of_site ∙ (known_is 0 low0).1 somewhere

  asked : IsAskedAt c p x
  asked = record {
    under = λ h. (and_parts (nat_eq p.proto 6) (has_ack_or_rst p) h).0;
    go = λ h. made.known x of_site ∙ goes_on 0 low0 (sym (made.fresh x of_site) ∙ h);
    acked_go = acked_go;
    ahead = ahead;
  }

  -- where the packet isn't lost its choices as a new one are those of the tables
  unstrayed : (a t s b : Bool) → s ≡ false → (a || (t && (s && b))) ≡ a
  unstrayed true t s b h = refl
  unstrayed false true true b h = absurd (true≢false h)
  unstrayed false true false b h = refl
  unstrayed false false s b h = refl

  new : (exit_at site p.entry p.dst ≡ Lost → ⊥) → is_accepted (new_of tables p) ≡ said_at c false p x
  new found = by (nat_eq p.proto 6) refl (has_ack_or_rst p) refl where
    unseen : is_stray site x ≡ false
    unseen = false_from_ne_true (is_stray site x) (λ h. found (stray_lost site p r arrives h))

    by : (t : Bool) → nat_eq p.proto 6 ≡ t → (f : Bool) → has_ack_or_rst p ≡ f → is_accepted (new_of tables p) ≡ cond (nat_eq p.proto 6 && has_ack_or_rst p) (truth c.acked_fresh.1 x) (truth c.fresh.1 x)
    by true tcp true h =
        tcp_flags h ∙ sym (new_is 16 low16)
        ∙ sym (unstrayed (truth n.1 (framed p.entry 16 x)) (is_tcp x) (is_stray site x) (truth c.acked_known.1 x && not (truth c.known.1 x)) unseen)
        ∙ sym (made.acked_fresh x of_site)
        ∙ sym (ap (λ (a : Bool). cond (a && has_ack_or_rst p) (truth c.acked_fresh.1 x) (truth c.fresh.1 x)) tcp ∙ ap (λ (b : Bool). cond b (truth c.acked_fresh.1 x) (truth c.fresh.1 x)) h)
    by true tcp false h =
        tcp_no_flags h ∙ sym (new_is 0 low0) ∙ sym (made.fresh x of_site)
        ∙ sym (ap (λ (a : Bool). cond (a && has_ack_or_rst p) (truth c.acked_fresh.1 x) (truth c.fresh.1 x)) tcp ∙ ap (λ (b : Bool). cond b (truth c.acked_fresh.1 x) (truth c.fresh.1 x)) h)
    by false other f h =
        other_new other ∙ sym (new_is 0 low0) ∙ sym (made.fresh x of_site)
        ∙ sym (ap (λ (a : Bool). cond (a && has_ack_or_rst p) (truth c.acked_fresh.1 x) (truth c.fresh.1 x)) other)

  somewhere : (said_at c true p x ≡ true) ↔ IsAcceptedSomewhere site tables p
  somewhere = by (nat_eq p.proto 6) refl (has_ack_or_rst p) refl where
    with_tcp : (t f : Bool) → nat_eq p.proto 6 ≡ t → has_ack_or_rst p ≡ f → said_at c true p x ≡ cond (t && f) (truth c.acked_known.1 x) (truth c.known.1 x)
    with_tcp t f tcp h =
        ap (λ (a : Bool). cond (a && has_ack_or_rst p) (truth c.acked_known.1 x) (truth c.known.1 x)) tcp ∙ ap (λ (b : Bool). cond (t && b) (truth c.acked_known.1 x) (truth c.known.1 x)) h

    by : (t : Bool) → nat_eq p.proto 6 ≡ t → (f : Bool) → has_ack_or_rst p ≡ f → (said_at c true p x ≡ true) ↔ IsAcceptedSomewhere site tables p
    by true tcp true h =
        let is = with_tcp true true tcp h ∙ made.acked_known x of_site in
        ((λ e. known_from 16 low16 h ((known_is 16 low16).0 (sym is ∙ e))), λ s. is ∙ (known_is 16 low16).1 (known_to 16 low16 h s))
    by true tcp false h =
        let is = with_tcp true false tcp h ∙ made.known x of_site in
        ((λ e. known_from 0 low0 h ((known_is 0 low0).0 (sym is ∙ e))), λ s. is ∙ (known_is 0 low0).1 (known_to 0 low0 h s))
    by false other f h =
        let is = with_tcp false f other h ∙ made.known x of_site ∙ other_known other in
        ((λ e. known_here.0 (sym is ∙ e)), λ s. is ∙ known_here.1 s)

  chosen : IsChosen site tables c p r
  chosen = record { asked = asked; new = new; somewhere = somewhere }

-- choices that are made of what the tables tell are those of the packets that come in by the entry
pub chosen_of : (site : Site) (tables : Tables) → Known site tables → (n k : List ℕ × Plain Bool) → TellsNew site tables n → TellsKnown site tables k
    → (entry : ℕ) (c : Choices) → 1 ≤ entry → AreMadeOf site n.1 k.1 entry c → AreOfEntry site tables entry c
chosen_of site tables known n k tells_n tells_k entry c low made p r of_site is =
    chosen site tables known n k tells_n tells_k c p r (subst (λ e. AreMadeOf site n.1 k.1 e c) (sym is) made) of_site (arrives_by p entry low is)

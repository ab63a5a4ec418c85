-- The words of an instance behind its number are read as that instance.
use Rattle.std.proofs.Common.{◌≡◌, ◌≢◌, ℕ, ◌^◌, ◌<◌, ◌≤◌, true, false, cond, ◌&&◌, ◌||◌, not, nat_eq, nat_le, nat_lt, Option, Some, None, is_some, is_none, ok_or, Result, Ok, Err, List, [], ◌∷◌, ◌++◌, map, codes, decimal, refl, ap, ap₂, sym, ◌∙◌, append_assoc, append-nil, arith, inl, inr}
use Rattle.std.proofs.lemmas.Bool.{and_from, and_parts, and_right, or_cases, leb-true, ltb-true, eqb-true, not-true}
use Rattle.std.proofs.lemmas.List.Folds.{list_all-append}
use Rattle.std.specs.List.{flat_map, list_all, list_any}
use Rattle.std.specs.Option.{option_map_or}
use Rattle.fws_num.specs.Named.{named_in}
use Rattle.fws_num.specs.Numbers.{dotted, lacks, split_once}
use Rattle.fws_num.specs.Services.{ports_between}
use Rattle.fws_net.specs.contracts.outcome.End.{the_row}
use Rattle.fws_net.specs.declared.cause.Cause.{Cause}
use Rattle.fws_net.specs.declared.cause.Cause.TheVariants.{Syntax, LeftOut}
use Rattle.fws_net.specs.declared.outcome.End.{End}
use Rattle.fws_net.specs.declared.site.Site.{Site}
use Rattle.fws_net.specs.Causes.{unless}
use Rattle.fws_net.specs.Ends.{host_end}
use Rattle.fws_net.specs.Reading.{and_then}
use Rattle.fws_ipfw.specs.declared.config.IpfwNat.{IpfwNat}
use Rattle.fws_ipfw.specs.declared.config.Redirect.{Redirect}
use Rattle.fws_ipfw.specs.declared.draft.NatDraft.{NatDraft}
use Rattle.fws_ipfw.specs.declared.draft.NatExpects.TheVariants as expect
use Rattle.fws_ipfw.specs.declared.draft.RedirectDraft.{RedirectDraft}
use Rattle.fws_ipfw.specs.NatText.{address_and_port, fresh_nat, nat_expected_step, nat_expecting, nat_made, nat_of, port_protocol, public_addr, public_end, redirect_made, redirected_port, takes_alias, with_alias, with_redirect}
use Rattle.fws_ipfw.specs.Options.{nat_word}
use Rattle.fws_ipfw.specs.RuleText.{has_ports}
use Rattle.fws_ipfw_print.specs.Printable.{is_port, is_printed_nat, is_printed_redirect, is_whole}
use Rattle.fws_print.specs.Words.{protocol_name}
use Rattle.fws_ipfw_print.specs.PrintedText.{redirect_words}
use Rattle.fws_ipfw_print.proofs.Basics.{never, then_ok}
use Rattle.fws_ipfw_print.proofs.Laws.{Laws}
use Rattle.fws_ipfw_print.proofs.LineWords.{texts_read, word_at, word_then, words_by_texts}
use Rattle.fws_ipfw_print.proofs.Tame.{address_bytes, address_lacks, address_tame, is_tame, is_value_byte, more, no_slashes, number_bytes, number_lacks, tames_writable, value_tame}
use Rattle.fws_ipfw_print.proofs.ValuesRead.{port_read, protocol_tame}

-- Ends

-- a whole address
record IsEnd (e : End) : Type 0 where
  whole : e.len ≡ 32
  within : e.addr < 2 ^ 32

host_same : (e : End) → e.len ≡ 32 → host_end e.addr e.port ≡ e
host_same e h = (the_row).coded.inj (host_end e.addr e.port) e (rw h refl)

end_known : (e : End) → is_whole e ≡ true → IsEnd e
end_known e h = (let parts = and_parts (nat_eq e.len 32) (nat_lt e.addr (2 ^ 32)) h in record { whole = eqb-true e.len 32 parts.0; within = ltb-true e.addr (2 ^ 32) parts.1 })

port_known : (o : Option ℕ) → is_port o ≡ true → (p : ℕ) × (o ≡ Some p) × (p ≤ 65535)
port_known None h = never h
port_known (Some p) h = (p, refl, leb-true p 65535 h)

none_known : {A : Type 0} (o : Option A) → is_none o ≡ true → o ≡ None
none_known None h = refl
none_known (Some x) h = never h

-- Drafts of redirects

abbrev draft_of : Redirect → RedirectDraft
draft_of r = record { proto = r.proto; local = r.local; public = Some r.public.addr; port = r.public.port }

abbrev nat_at : ℕ → List RedirectDraft → NatDraft
nat_at alias done = record { expects = expect.Option; given = []; alias = Some alias; redirects = done }

no_alias : (redirects : List Redirect) → list_any takes_alias (map draft_of redirects) ≡ false
no_alias [] = refl
no_alias (r ∷ redirects) = no_alias redirects

module _ (laws : Laws) (site : Site) where
  abbrev step : NatDraft → List ℕ → Result NatDraft Cause
  step d text = nat_expected_step site d.expects text d

  abbrev read : NatDraft → List (List ℕ) → Result NatDraft Cause
  read d texts = texts_read step d texts

  end_tame : (a p : ℕ) → is_tame (dotted a ++ 58 ∷ decimal p) ≡ true
  end_tame a p =
      value_tame (dotted a ++ 58 ∷ decimal p) (some (dotted a) (58 ∷ decimal p) (laws.dotted_bytes a).1)
      (list_all-append is_value_byte (dotted a) (58 ∷ decimal p)
      ∙ and_from (list_all is_value_byte (dotted a)) (list_all is_value_byte (58 ∷ decimal p)) (address_bytes laws a) (number_bytes laws p))
      (no_slashes (dotted a ++ 58 ∷ decimal p)
      (list_all-append (λ c. not (nat_eq c 47)) (dotted a) (58 ∷ decimal p)
      ∙ and_from (lacks 47 (dotted a)) (lacks 47 (58 ∷ decimal p)) (address_lacks laws 47 a refl) (number_lacks laws 47 p refl)))
    where
      some : (text rest : List ℕ) → text ≢ [] → text ++ rest ≢ []
      some [] rest h = absurd (h refl)
      some (c ∷ text) rest h = λ e. absurd cc

  place_read : (a p : ℕ) → a < 2 ^ 32 → p ≤ 65535 → address_and_port (dotted a, decimal p) ≡ Ok (a, p)
  place_read a p h k =
      ap (λ o. option_map_or (λ addr. and_then (redirected_port (decimal p)) (λ port. Ok (addr, port))) o (Err Syntax)) (laws.quads.0 a h)
      ∙ ap (λ o. and_then (option_map_or Ok o (cond (is_some (ports_between 45 (decimal p))) (Err LeftOut) (Err Syntax))) (λ port. Ok (a, port))) (port_read laws p k)

  place_split : (a p : ℕ) → split_once 58 (dotted a ++ 58 ∷ decimal p) ≡ Some (dotted a, decimal p)
  place_split a p = laws.splits 58 (dotted a) (decimal p) (address_lacks laws 58 a refl)

  public_read : (a p : ℕ) → a < 2 ^ 32 → p ≤ 65535 → nat_eq a 0 ≡ false → public_end (dotted a ++ 58 ∷ decimal p) ≡ Ok (Some a, p)
  public_read a p h k some =
      ap (λ o. option_map_or (λ parts. and_then (address_and_port parts) (λ end. and_then (public_addr end.0) (λ addr. Ok (Some addr, end.1)))) o (and_then (redirected_port (dotted a ++ 58 ∷ decimal p)) (λ port. Ok (None, port))))
      (place_split a p)
      ∙ ap (λ o. and_then o (λ end. and_then (public_addr end.0) (λ addr. Ok (Some addr, end.1)))) (place_read a p h k)
      ∙ ap (λ b. and_then (cond b (Err LeftOut) (Ok a)) (λ addr. Ok (Some addr, p))) some

  proto_read : (n : ℕ) → (nat_eq n 6 || nat_eq n 17) ≡ true → port_protocol (protocol_name n) ≡ Some n
  unfolding port_protocol
  proto_read n h =
      elim (or_cases (nat_eq n 6) (nat_eq n 17) h) [
        | inl e ↦ ap (λ k. named_in ((codes "tcp", 6) ∷ (codes "udp", 17) ∷ []) (protocol_name k)) (eqb-true n 6 e) ∙ ap (λ k. Some k) (sym (eqb-true n 6 e))
        | inr e ↦ ap (λ k. named_in ((codes "tcp", 6) ∷ (codes "udp", 17) ∷ []) (protocol_name k)) (eqb-true n 17 e) ∙ ap (λ k. Some k) (sym (eqb-true n 17 e))
      ]

  record IsTaken (r : Redirect) : Type 0 where
    taken : (alias : ℕ) (done : List RedirectDraft) (rest : List (List ℕ)) → read (nat_at alias done) (redirect_words r ++ rest) ≡ read (nat_at alias (done ++ draft_of r ∷ [])) rest
    tame : list_all is_tame (redirect_words r) ≡ true
    made : (alias : ℕ) → redirect_made alias (draft_of r) ≡ r

  made_same : (alias : ℕ) (r : Redirect) → r.public.len ≡ 32 → redirect_made alias (draft_of r) ≡ r
  made_same alias r h = ap (λ (e : End). let x : Redirect = record { proto = r.proto; local = r.local; public = e } in x) (host_same r.public h)

  -- a redirect of ports
  ports_taken : (n p q : ℕ) (local public : End) → IsEnd local → IsEnd public → local.port ≡ Some p → public.port ≡ Some q → p ≤ 65535 → q ≤ 65535 → nat_eq public.addr 0 ≡ false → (nat_eq n 6 || nat_eq n 17) ≡ true
      → IsTaken (record { proto = Some n; local = local; public = public })
  unfolding nat_word
  ports_taken n p q local public is_local is_public lp pp ps qs some known =
      let r : Redirect = record { proto = Some n; local = local; public = public } in
      let near = dotted local.addr ++ 58 ∷ decimal p in
      let far = dotted public.addr ++ 58 ∷ decimal q in
      let name = protocol_name n in
      let words : List (List ℕ) = codes "redirect_port" ∷ name ∷ near ∷ far ∷ [] in
      let same : redirect_words r ≡ words =
      ap₂ (λ (a b : Option ℕ). codes "redirect_port" ∷ name ∷ (dotted local.addr ++ option_map_or (λ port. 58 ∷ decimal port) a []) ∷ (dotted public.addr ++ option_map_or (λ port. 58 ∷ decimal port) b []) ∷ []) lp pp in
      record {
        taken = λ alias done rest.
            let d1 : NatDraft = nat_expecting expect.Protocol (nat_at alias done) in
            let d2 : NatDraft = nat_expecting (expect.LocalEnd n) (nat_at alias done) in
            let d3 : NatDraft = nat_expecting (expect.PublicEnd n local) (nat_at alias done) in
            let made : RedirectDraft = record { proto = Some n; local = local; public = Some public.addr; port = Some q } in
            ap (λ ws. read (nat_at alias done) (ws ++ rest)) same
            ∙ word_then step name (near ∷ far ∷ rest) d1 d2 (ap (λ o. option_map_or (λ proto. Ok (nat_expecting (expect.LocalEnd proto) d1)) o (Err Syntax)) (proto_read n known))
            ∙ word_then step near (far ∷ rest) d2 d3
            (ap (λ o. and_then (and_then (ok_or o Syntax) address_and_port) (λ end. Ok (nat_expecting (expect.PublicEnd n (host_end end.0 (Some end.1))) d2))) (place_split local.addr p)
            ∙ ap (λ o. and_then o (λ end. Ok (nat_expecting (expect.PublicEnd n (host_end end.0 (Some end.1))) d2))) (place_read local.addr p is_local.within ps)
            ∙ ap (λ (e : End). Ok (nat_expecting (expect.PublicEnd n e) d2)) (ap (host_end local.addr) (sym lp) ∙ host_same local is_local.whole))
            ∙ word_then step far rest d3 (nat_at alias (done ++ made ∷ []))
            (then_ok (public_end far) (λ end. Ok (with_redirect (record { proto = Some n; local = local; public = end.0; port = Some end.1 }) d3)) (Some public.addr, q) _ (public_read public.addr q is_public.within qs some) refl)
            ∙ ap (λ (port : Option ℕ). let made : RedirectDraft = record { proto = Some n; local = local; public = Some public.addr; port = port } in read (nat_at alias (done ++ made ∷ [])) rest) (sym pp);
        tame = ap (list_all is_tame) same
            ∙ more (codes "redirect_port") (name ∷ near ∷ far ∷ []) refl
            (more name (near ∷ far ∷ []) (protocol_tame laws n) (more near (far ∷ []) (end_tame local.addr p) (more far [] (end_tame public.addr q) refl)));
        made = λ alias. made_same alias r is_public.whole;
      }

  -- a redirect of addresses
  addresses_taken : (local public : End) → IsEnd local → IsEnd public → local.port ≡ None → public.port ≡ None → nat_eq public.addr 0 ≡ false → IsTaken (record { proto = None; local = local; public = public })
  unfolding nat_word
  addresses_taken local public is_local is_public lp pp some =
      let r : Redirect = record { proto = None; local = local; public = public } in
      let near = dotted local.addr in
      let far = dotted public.addr in
      record {
        taken = λ alias done rest.
            let d1 : NatDraft = nat_expecting expect.LocalAddress (nat_at alias done) in
            let d2 : NatDraft = nat_expecting (expect.PublicAddress local) (nat_at alias done) in
            let made : RedirectDraft = record { proto = None; local = local; public = Some public.addr; port = None } in
            word_then step near (far ∷ rest) d1 d2
            (ap (λ o. option_map_or (λ addr. Ok (nat_expecting (expect.PublicAddress (host_end addr None)) d1)) o (Err Syntax)) (laws.quads.0 local.addr is_local.within)
            ∙ ap (λ (e : End). Ok (nat_expecting (expect.PublicAddress e) d1)) (ap (host_end local.addr) (sym lp) ∙ host_same local is_local.whole))
            ∙ word_then step far rest d2 (nat_at alias (done ++ made ∷ []))
            (ap (λ o. and_then (and_then (ok_or o Syntax) public_addr) (λ addr. Ok (with_redirect (record { proto = None; local = local; public = Some addr; port = None }) d2))) (laws.quads.0 public.addr is_public.within)
            ∙ ap (λ b. and_then (cond b (Err LeftOut) (Ok public.addr)) (λ addr. Ok (with_redirect (record { proto = None; local = local; public = Some addr; port = None }) d2))) some)
            ∙ ap (λ (port : Option ℕ). let made : RedirectDraft = record { proto = None; local = local; public = Some public.addr; port = port } in read (nat_at alias (done ++ made ∷ [])) rest) (sym pp);
        tame = more (codes "redirect_addr") (near ∷ far ∷ []) refl (more near (far ∷ []) (address_tame laws local.addr) (more far [] (address_tame laws public.addr) refl));
        made = λ alias. made_same alias r is_public.whole;
      }

  redirect_by : (proto : Option ℕ) (local public : End) → IsEnd local → IsEnd public → nat_eq public.addr 0 ≡ false
      → ((has_ports proto && is_port local.port && is_port public.port) || (is_none proto && is_none local.port && is_none public.port)) ≡ true → IsTaken (record { proto = proto; local = local; public = public })
  redirect_by None local public near far some h =
      let parts = and_parts (is_none local.port) (is_none public.port) h in
      addresses_taken local public near far (none_known local.port parts.0) (none_known public.port parts.1) some
  redirect_by (Some n) local public near far some h =
      let own : ((nat_eq n 6 || nat_eq n 17) && is_port local.port && is_port public.port) ≡ true = elim (or_cases ((nat_eq n 6 || nat_eq n 17) && is_port local.port && is_port public.port) false h) [ inl e ↦ e | inr e ↦ never e ] in
      let last = and_parts ((nat_eq n 6 || nat_eq n 17) && is_port local.port) (is_port public.port) own in
      let first = and_parts (nat_eq n 6 || nat_eq n 17) (is_port local.port) last.0 in
      let p = port_known local.port first.1 in
      let q = port_known public.port last.1 in
      ports_taken n p.0 q.0 local public near far p.1 q.1 p.2 q.2 some first.0

  redirect_taken : (r : Redirect) → is_printed_redirect r ≡ true → IsTaken r
  redirect_taken r h =
      let forms = (has_ports r.proto && is_port r.local.port && is_port r.public.port) || (is_none r.proto && is_none r.local.port && is_none r.public.port) in
      let last = and_parts (is_whole r.local && is_whole r.public && not (nat_eq r.public.addr 0)) forms h in
      let third = and_parts (is_whole r.local && is_whole r.public) (not (nat_eq r.public.addr 0)) last.0 in
      let first = and_parts (is_whole r.local) (is_whole r.public) third.0 in
      redirect_by r.proto r.local r.public (end_known r.local first.0) (end_known r.public first.1) (not-true (nat_eq r.public.addr 0) third.1) last.1

  record AreTaken (redirects : List Redirect) : Type 0 where
    taken : (alias : ℕ) (done : List RedirectDraft) → read (nat_at alias done) (flat_map redirect_words redirects) ≡ Ok (nat_at alias (done ++ map draft_of redirects))
    tame : list_all is_tame (flat_map redirect_words redirects) ≡ true
    made : (alias : ℕ) → map (redirect_made alias) (map draft_of redirects) ≡ redirects

  redirects_taken : (redirects : List Redirect) → list_all is_printed_redirect redirects ≡ true → AreTaken redirects
  redirects_taken [] h = record { taken = λ alias done. ap (λ (l : List RedirectDraft). Ok (nat_at alias l)) (sym (append-nil done)); tame = refl; made = λ alias. refl }
  redirects_taken (r ∷ redirects) h =
      let parts = and_parts (is_printed_redirect r) (list_all is_printed_redirect redirects) h in
      let own = redirect_taken r parts.0 in
      let others = redirects_taken redirects parts.1 in
      let rest = flat_map redirect_words redirects in
      record {
        taken = λ alias done.
            own.taken alias done rest ∙ others.taken alias (done ++ draft_of r ∷ [])
            ∙ ap (λ (l : List RedirectDraft). Ok (nat_at alias l)) (append_assoc done (draft_of r ∷ []) (map draft_of redirects));
        tame = list_all-append is_tame (redirect_words r) rest ∙ and_from (list_all is_tame (redirect_words r)) (list_all is_tame rest) own.tame others.tame;
        made = λ alias. ap₂ (λ (x : Redirect) (xs : List Redirect). x ∷ xs) (own.made alias) (others.made alias);
      }

  -- The whole instance

  abbrev pub nat_texts : IpfwNat → List (List ℕ)
  nat_texts nat = codes "ip" ∷ dotted nat.alias ∷ flat_map redirect_words nat.redirects

  pub record NatRead (nat : IpfwNat) : Type 0 where
    pub read_back : (m : ℕ) → nat_of site nat.number (map (word_at m) (nat_texts nat)) ≡ Ok nat
    pub tame : list_all is_tame (nat_texts nat) ≡ true
    pub some : 1 ≤ nat.number
    pub within : nat.number ≤ 65535

  nat_drawn_back : (nat : IpfwNat) → ((alias : ℕ) → map (redirect_made alias) (map draft_of nat.redirects) ≡ nat.redirects) → nat_made nat.number (nat_at nat.alias (map draft_of nat.redirects)) ≡ Ok nat
  nat_drawn_back nat made =
      let drawn : IpfwNat = record { number = nat.number; alias = nat.alias; redirects = map (redirect_made nat.alias) (map draft_of nat.redirects) } in
      ap (λ b. unless (cond b (Some LeftOut) None) drawn) (ap (λ b. nat_eq 0 nat.alias && b) (no_alias nat.redirects) ∙ and_right (nat_eq 0 nat.alias) false refl)
      ∙ ap (λ (l : List Redirect). let x : IpfwNat = record { number = nat.number; alias = nat.alias; redirects = l } in Ok x) (made nat.alias)

  pub nat_read : (nat : IpfwNat) → is_printed_nat nat ≡ true → NatRead nat
  unfolding nat_word
  nat_read nat h =
      let last = and_parts (nat_lt 0 nat.number && nat_le nat.number 65535 && nat_lt nat.alias (2 ^ 32)) (list_all is_printed_redirect nat.redirects) h in
      let third = and_parts (nat_lt 0 nat.number && nat_le nat.number 65535) (nat_lt nat.alias (2 ^ 32)) last.0 in
      let first = and_parts (nat_lt 0 nat.number) (nat_le nat.number 65535) third.0 in
      let low : 0 < nat.number = ltb-true 0 nat.number first.0 in
      let are = redirects_taken nat.redirects last.1 in
      let rest = flat_map redirect_words nat.redirects in
      let tames : list_all is_tame (nat_texts nat) ≡ true = more (codes "ip") (dotted nat.alias ∷ rest) refl (more (dotted nat.alias) rest (address_tame laws nat.alias) are.tame) in
      let opened : NatDraft = nat_expecting expect.Address fresh_nat in
      record {
        read_back = λ m.
            ap (λ o. and_then o (nat_made nat.number))
            (words_by_texts step m (nat_texts nat) fresh_nat (tames_writable (nat_texts nat) tames)
            ∙ word_then step (dotted nat.alias) rest opened (nat_at nat.alias [])
            (ap (λ o. option_map_or (λ addr. Ok (with_alias addr opened)) o (Err Syntax)) (laws.quads.0 nat.alias (ltb-true nat.alias (2 ^ 32) third.1)))
            ∙ are.taken nat.alias [])
            ∙ nat_drawn_back nat are.made;
        tame = tames;
        some = omega arith;
        within = leb-true nat.number 65535 first.1;
      }

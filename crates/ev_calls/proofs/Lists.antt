-- Lists of call records stay, grow, are taken and are turned.
use Rattle.std.proofs.Common.{◌≡◌, ◌≢◌, inl, inr, ℕ, ◌+◌, List, [], ◌∷◌, ◌++◌, refl, sym, ap, ◌∙◌, subst, append_assoc, append-nil, arith}
use Rattle.std.specs.Prelude.{reverse}
use Rattle.std.proofs.lemmas.Bool.{eq-eqb, ne_eqb}
use Rattle.std.proofs.lemmas.List.{reverse-append, reverse-reverse}
use Rattle.ev_isa.specs.Word.{NatMap, put_at}
use Rattle.ev_abstract.specs.Context.{CallId}
use Rattle.ev_listing.specs.AddressMap.{pcpu, head_offset}
use Rattle.ev_calls.specs.Records.{Linked}
use Rattle.ev_calls.specs.Lists.{address_of, link_of, IsCall, IsNoneOf, KeepLinks, AddressesDiffer, ListsStay, EmptyAtZero, FirstElsewhere, QueuesGrow, QueuesAreTaken, ListsTurn, ListsAreTurned}

-- ---- words

written : (words : NatMap ℕ) (a v : ℕ) → put_at words a v a ≡ v
written words a v = rw (eq-eqb a a refl, put_at) refl

unwritten : (words : NatMap ℕ) (a v i : ℕ) → i ≢ a → put_at words a v i ≡ words i
unwritten words a v i d = rw (ne_eqb i a d, put_at) refl

-- ---- addresses

pub addresses_differ : AddressesDiffer
addresses_differ k j c d (inl n) e = n (let a = c.0 in let b = c.1 in let f = d.0 in let g = d.1 in omega (arith, a, b, f, g, e))
addresses_differ k j c d (inr n) e = n (let a = c.0 in let b = c.1 in let f = d.0 in let g = d.1 in omega (arith, a, b, f, g, e))

-- the head of a queue is no link
head_is_no_link : (p : ℕ) (k : CallId) → IsCall k → link_of k ≢ pcpu p + head_offset
head_is_no_link p k c e = let s = c.1 in omega (arith, s, e)

-- ---- lists

pub lists_stay : ListsStay
lists_stay m n a [] keep h = h
lists_stay m n a (k ∷ ks) keep h = (
  h.0,
  h.1,
  h.2,
  subst (λ x. Linked n x ks) (sym (ap (λ x. n (x + 0x18)) h.2 ∙ keep.0 ∙ sym (ap (λ x. m (x + 0x18)) h.2)))
      (lists_stay m n (m (a + 0x18)) ks keep.1 h.3),
)

pub empty_at_zero : EmptyAtZero
empty_at_zero words [] h = refl
empty_at_zero words (k ∷ ks) h = (let e = h.2 in absurd (omega (arith, e)))

pub first_elsewhere : FirstElsewhere
first_elsewhere words a [] n h = absurd (n h)
first_elsewhere words a (k ∷ ks) n h = record {
  first = k;
  rest = ks;
  are = refl;
  is_call = (h.0, h.1);
  at = h.2;
  linked = subst (λ x. Linked words (words (x + 0x18)) ks) h.2 h.3;
}

-- a write of a head keeps the links of a list
head_keeps : (words : NatMap ℕ) (p v a : ℕ) (ks : List CallId) → Linked words a ks → KeepLinks words (put_at words (pcpu p + head_offset) v) ks
head_keeps words p v a [] h = tt
head_keeps words p v a (k ∷ ks) h =
    (unwritten words (pcpu p + head_offset) v (link_of k) (head_is_no_link p k (h.0, h.1)), head_keeps words p v (words (a + 0x18)) ks h.3)

-- a write of a link keeps those of other calls
link_keeps : (words : NatMap ℕ) (k : CallId) (v a : ℕ) (ks : List CallId) → IsCall k → IsNoneOf k ks → Linked words a ks
    → KeepLinks words (put_at words (link_of k) v) ks
link_keeps words k v a [] c none h = tt
link_keeps words k v a (j ∷ js) c none h = (
  unwritten words (link_of k) v (link_of j) (λ e. addresses_differ k j c (h.0, h.1) none.0 (let z : address_of k ≡ address_of j = omega (arith, e) in z)),
  link_keeps words k v (words (a + 0x18)) js c none.1 h.3,
)

-- ---- queues

pub queues_grow : QueuesGrow
queues_grow words p k queue hp c link h =
    let head : ℕ = pcpu p + head_offset in
    let n : NatMap ℕ = put_at words head (address_of k) in
    let same : n (link_of k) ≡ words head = unwritten words head (address_of k) (link_of k) (head_is_no_link p k c) ∙ link in
    let rest : Linked n (words head) (reverse queue)
    = lists_stay words n (words head) (reverse queue) (head_keeps words p (address_of k) (words head) (reverse queue) h) h in
    subst (Linked n (n head)) (sym (reverse-append queue (k ∷ [])))
    (subst (λ a. Linked n a (k ∷ reverse queue)) (sym (written words head (address_of k)))
    (c.0, c.1, refl, subst (λ a. Linked n a (reverse queue)) (sym same) rest))

pub queues_are_taken : QueuesAreTaken
queues_are_taken words p queue hp h =
    let head : ℕ = pcpu p + head_offset in
    let n : NatMap ℕ = put_at words head 0 in (
      record {
        ahead = reverse queue;
        behind = [];
        are = sym (append-nil (reverse (reverse queue)) ∙ reverse-reverse queue);
        lead = lists_stay words n (words head) (reverse queue) (head_keeps words p 0 (words head) (reverse queue) h) h;
        follow = refl;
      },
      written words head 0,
    )

-- ---- turning

turn_order : (k : CallId) (ahead behind : List CallId) → reverse (k ∷ ahead) ++ behind ≡ reverse ahead ++ k ∷ behind
turn_order k ahead behind = ap (λ ks. ks ++ behind) (reverse-append (k ∷ []) ahead) ∙ append_assoc (reverse ahead) (k ∷ []) behind

pub lists_turn : ListsTurn
lists_turn words left turned calls t h none_ahead none_behind =
    let k : CallId = h.first in
    let n : NatMap ℕ = put_at words (link_of k) turned in record {
      ahead = h.rest;
      behind = k ∷ t.behind;
      are = t.are ∙ ap (λ ks. reverse ks ++ t.behind) h.are ∙ turn_order k h.rest t.behind;
      lead = lists_stay words n (words (link_of k)) h.rest (link_keeps words k turned (words (link_of k)) h.rest h.is_call none_ahead h.linked) h.linked;
      follow = (
        h.is_call.0,
        h.is_call.1,
        h.at,
        subst (λ a. Linked n a t.behind) (sym (ap (λ a. n (a + 0x18)) h.at ∙ written words (link_of k) turned))
            (lists_stay words n turned t.behind (link_keeps words k turned turned t.behind h.is_call none_behind t.follow) t.follow),
      );
    }

pub lists_are_turned : ListsAreTurned
lists_are_turned words turned calls t =
    subst (Linked words turned) (sym (t.are ∙ ap (λ ks. reverse ks ++ t.behind) (empty_at_zero words t.ahead t.lead))) t.follow

-- What was read and written goes on with each piece.
use Rattle.std.proofs.Common.{◌≡◌, ℕ, List, [], ◌++◌, Option, None, Some}
use Rattle.std.proofs.Common.{refl, sym, ◌∙◌, ap, subst}
use Rattle.std.proofs.lemmas.List.{append_assoc, append-nil}
use Rattle.std.specs.Io.KnownBytes.{Appends, Consumes}
use Rattle.driver_host.specs.declared.work.Choice.{Choice}
use Rattle.driver_host.specs.Chosen.{Contents}
use Rattle.driver_host.specs.Works.{WorkTold}
use Rattle.driver_host.specs.Hosts.{HostSeen, IsHostAfter}
use Rattle.sample_host.specs.Serving.{AnswersPiece, Answers}

nothing_consumed : (a : Option (List ℕ)) → Consumes a a []
nothing_consumed None = tt
nothing_consumed (Some x) = refl

nothing_appended : (a : Option (List ℕ)) → Appends a a []
nothing_appended None = tt
nothing_appended (Some x) = sym (append-nil x)

consumed_on : (a b c : Option (List ℕ)) (xs ys : List ℕ)
    → Consumes a b xs → Consumes b c ys → Consumes a c (xs ++ ys)
consumed_on None b c xs ys h k = tt
consumed_on (Some x) None c xs ys h k = absurd h
consumed_on (Some x) (Some y) None xs ys h k = absurd k
consumed_on (Some x) (Some y) (Some z) xs ys h k =
    h ∙ ap (λ (q : List ℕ). xs ++ q) k ∙ sym (append_assoc xs ys z)

appended_on : (a b c : Option (List ℕ)) (xs ys : List ℕ)
    → Appends a b xs → Appends b c ys → Appends a c (xs ++ ys)
appended_on None b c xs ys h k = tt
appended_on (Some x) None c xs ys h k = absurd h
appended_on (Some x) (Some y) None xs ys h k = absurd k
appended_on (Some x) (Some y) (Some z) xs ys h k =
    k ∙ ap (λ (q : List ℕ). q ++ ys) h ∙ append_assoc x xs ys

end_consumed : (a b c : Option (List ℕ)) (xs : List ℕ)
    → Consumes a b xs → Consumes b c [] → Consumes a c xs
end_consumed None b c xs h k = tt
end_consumed (Some x) None c xs h k = absurd h
end_consumed (Some x) (Some y) None xs h k = absurd k
end_consumed (Some x) (Some y) (Some z) xs h k = h ∙ ap (λ (q : List ℕ). xs ++ q) k

module _ {W : Type 0} (told : W → WorkTold) (latest : W → Contents) where
  same_host : (bytes bytes' : List ℕ) (cs cs' : List Choice) (text text' : List ℕ) (h : HostSeen W)
      → bytes ≡ bytes' → cs ≡ cs' → text ≡ text'
      → IsHostAfter told latest bytes cs text h → IsHostAfter told latest bytes' cs' text' h
  same_host bytes bytes' cs cs' text text' h e f g is =
      subst (λ (z : List ℕ). IsHostAfter told latest z cs' text' h) e
      (subst (λ (z : List Choice). IsHostAfter told latest bytes z text' h) f
      (subst (λ (z : List ℕ). IsHostAfter told latest bytes cs z h) g is))

  pub nothing_answered : (bytes : List ℕ) (cs : List Choice) (text : List ℕ) (h : HostSeen W)
      (unread held : Option (List ℕ)) → IsHostAfter told latest bytes cs text h
      → Answers told latest bytes cs text unread held h unread held
  nothing_answered bytes cs text h unread held is = record {
    read = [];
    taken = nothing_consumed unread;
    piece = record {
      more = [];
      added = [];
      host = same_host _ _ _ _ _ _ h (sym (append-nil bytes)) (sym (append-nil cs))
          (sym (append-nil text)) is;
      written = nothing_appended held;
    };
  }

  pub answered_on : (bytes : List ℕ) (cs : List Choice) (text piece : List ℕ) (h new : HostSeen W)
      (unread held left holds left' holds' : Option (List ℕ))
      → Answers told latest bytes cs text unread held h left holds → Consumes left left' piece
      → ((b : List ℕ) (c : List Choice) (t : List ℕ)
      → IsHostAfter told latest b c t h → AnswersPiece told latest b c t piece holds new holds')
      → Answers told latest bytes cs text unread held new left' holds'
  answered_on bytes cs text piece h new unread held left holds left' holds' so taken answers =
      let p = so.piece in
      let q = answers (bytes ++ so.read) (cs ++ p.more) (text ++ p.added) p.host in record {
        read = so.read ++ piece;
        taken = consumed_on unread left left' so.read piece so.taken taken;
        piece = record {
          more = p.more ++ q.more;
          added = p.added ++ q.added;
          host = same_host _ _ _ _ _ _ new (append_assoc bytes so.read piece)
              (append_assoc cs p.more q.more) (append_assoc text p.added q.added) q.host;
          written = appended_on held holds holds' p.added q.added p.written q.written;
        };
      }

  pub end_answered : (bytes : List ℕ) (cs : List Choice) (text : List ℕ) (h : HostSeen W)
      (unread held left holds left' : Option (List ℕ))
      → Answers told latest bytes cs text unread held h left holds → Consumes left left' []
      → Answers told latest bytes cs text unread held h left' holds
  end_answered bytes cs text h unread held left holds left' so taken = record {
    read = so.read;
    taken = end_consumed unread left left' so.read so.taken taken;
    piece = so.piece;
  }

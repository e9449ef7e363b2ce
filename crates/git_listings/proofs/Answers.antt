-- One more line of an answer.
use Rattle.std.proofs.Common.{◌≡◌, ℕ, ◌+◌, ◌<◌, List, [], ◌∷◌, ◌++◌, length, take, get_or, sym, ◌∙◌, ap, arith, append_assoc}
use Rattle.std.proofs.lemmas.List.{append-nil, take_more, length-take-le}
use Rattle.attr_line.specs.declared.state.AttrState.{AttrState}
use Rattle.git_listings.specs.Answer.{line, answer}

answer-push : (shown : List ℕ) (names : List (List ℕ)) (states : List AttrState) (name : List ℕ) (state : AttrState) → length names ≡ length states
    → answer shown (names ++ name ∷ []) (states ++ state ∷ []) ≡ answer shown names states ++ line shown name state
answer-push shown [] [] name state same = append-nil (line shown name state)
answer-push shown [] (other ∷ states) name state same = absurd (omega arith)
answer-push shown (first ∷ names) [] name state same = absurd (omega arith)
answer-push shown (first ∷ names) (other ∷ states) name state same =
    ap (λ lines. line shown first other ++ lines) (answer-push shown names states name state (omega arith))
    ∙ sym (append_assoc (line shown first other) (answer shown names states) (line shown name state))

pub answer-take : (shown : List ℕ) (names : List (List ℕ)) (states : List AttrState) (i : ℕ) (name : List ℕ) (state : AttrState)
    → name ≡ get_or names i name → state ≡ get_or states i state → i < length names → length names ≡ length states
    → answer shown (take (i + 1) names) (take (i + 1) states) ≡ answer shown (take i names) (take i states) ++ line shown name state
answer-take shown names states i name state this that within same =
    ap (λ xs. answer shown xs (take (i + 1) states)) (take_more names i name within ∙ ap (λ x. take i names ++ x ∷ []) (sym this))
    ∙ ap (λ ys. answer shown (take i names ++ name ∷ []) ys) (take_more states i state (omega arith) ∙ ap (λ y. take i states ++ y ∷ []) (sym that))
    ∙ answer-push shown (take i names) (take i states) name state (length-take-le i names (omega arith) ∙ sym (length-take-le i states (omega arith)))

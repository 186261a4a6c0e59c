-- A batch: the events that are lent, in turn, on the table, the bits, the memory for states and the tally that are lent.
-- Assumes nothing.
use Rattle.std.specs.Prelude.{ℕ, min, ◌≡◌, List, map, ◌++◌, length, take, drop}
use Rattle.model.specs.Requests.{Limits, Request}
use Rattle.model.specs.Lists.{final, answers}
use Rattle.model.specs.declared.Sheet.{Sheet}
use Rattle.model.specs.Step.{State, after, answer}
use Rattle.kelzoud_events.specs.Interface.{answer_words, request_in}

-- the first m requests
abbrev pub requests_in : Limits → List (List ℕ) → List ℕ → ℕ → List Request
requests_in limits events names m = take m (map (λ w. request_in limits w names) events)

-- a batch takes as many events as there are entries for answers
abbrev pub taken : List (List ℕ) → List (List ℕ) → ℕ
taken events out = min (length events) (length out)

module _ (sheet : Sheet) (limits : Limits) where
  -- the state after them, by a sheet and with limits, or none, that are lent for all: one that is refused stops nothing, so that a back
  -- may be refused 1, for what is stored, and the next one be allowed
  abbrev pub after_first : State → List (List ℕ) → List ℕ → ℕ → State
  after_first h events names m = final (after sheet) h (requests_in limits events names m)

  -- the list that is lent for answers: theirs first, and the entries behind as they were
  abbrev pub answers_first : State → List (List ℕ) → List ℕ → ℕ → List (List ℕ) → List (List ℕ)
  answers_first h events names m out = map answer_words (answers (after sheet) answer h (requests_in limits events names m)) ++ drop m out

  abbrev pub after_all : State → List (List ℕ) → List ℕ → List (List ℕ) → State
  after_all h events names out = after_first h events names (taken events out)

  abbrev pub answers_all : State → List (List ℕ) → List ℕ → List (List ℕ) → List (List ℕ)
  answers_all h events names out = answers_first h events names (taken events out) out

  -- The rest is for the functions below the call: m requests leave the state h', and out' where out was lent.
  pub record Ran (h : State) (events : List (List ℕ)) (names : List ℕ) (m : ℕ) (out : List (List ℕ)) (h' : State) (out' : List (List ℕ)) : Type 0 where
    pub state : h' ≡ after_first h events names m
    pub said : out' ≡ answers_first h events names m out

-- When an actor was shown and served, and how that follows from what the end did.
use Rattle.std.specs.Prelude.{◌≡◌, ℕ, ◌+◌, ◌-◌, ◌≤◌, ◌==◌, ◌&&◌, not, List, Bool, false, None, unwrap_or, is_some, option_map, if◌then◌else◌}
use Rattle.protocol_model.specs.Search.{oldest_of}
use Rattle.protocol_model.specs.Sight.{Seen}
use Rattle.connection_model.specs.Feed.{Past, ticks_of, tick_count, seen_in}
use Rattle.connection_model.specs.Items.{last_service, first_sight, shown_in}
use Rattle.connection_model.specs.CallAnswers.{is_seen_owned}
use Rattle.connection_model.specs.Pack.{idle_ticks}
use Rattle.sender_records.specs.declared.service.Service.{Service}

-- what is kept of an actor's sights and service is right; 0 stands for a tick that wasn't
pub record KeepsService (past : Past) (actor : ℕ) (s : Service) : Type 0 where
  pub relevant : s.relevant_at + idle_ticks past actor ≡ tick_count past
  pub first : is_some (oldest_of (shown_in actor) (ticks_of past)) ≡ not (s.relevant_at == 0)
  pub served : s.served ≡ unwrap_or (last_service past actor) (first_sight past actor - 1)
  pub unserved : s.relevant_at ≡ 0 → last_service past actor ≡ None
  pub owned : is_seen_owned past actor ≡ (not (s.owned_at == 0) && s.owned_at == tick_count past)
  pub before : s.owned_at ≤ tick_count past

-- the sight shows the actor as owned
abbrev pub shows_owned : List Seen → ℕ → Bool
shows_owned sight a = unwrap_or (option_map (λ (seen : Seen). seen.owns) (seen_in sight a)) false

-- nothing was shown of the actor
abbrev pub fresh_service : Service
fresh_service = record { relevant_at = 0; owned_at = 0; served = 0 }

-- once a sight shows the actor so
abbrev pub service_shown : Service → (tick : ℕ) → (relevant owns : Bool) → Service
service_shown s tick relevant owns = record {
  relevant_at = if relevant then tick else s.relevant_at;
  owned_at = if owns then tick else s.owned_at;
  served = if relevant && s.relevant_at == 0 then tick - 1 else s.served;
}

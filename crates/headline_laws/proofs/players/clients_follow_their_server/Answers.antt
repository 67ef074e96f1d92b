use Rattle.headline_laws.proofs.CallPrefixes.{players_agree}
use Rattle.headline_laws.proofs.players.clients_follow_their_server.Goals as goal

pub returns : goal.returns
returns c = λ entries lines p plays h.
    (let a = players_agree entries lines p plays.table plays.edits h.joined h.honest in
    record { follows = a.follower.follows; whole = a.follower.whole })

-- The file of the built-in class table.
use Rattle.std.specs.Prelude.{ℕ, List, codes}

-- its bytes, one line without an end
unfoldable pub built_in_file : List ℕ
built_in_file = codes "{\"classes\":[{\"name\":\"Pawn\",\"path\":\"/Game/Pawn\",\"parent\":null,\"relevancy\":\"near\",\"cull\":1000,\"priority\":3,\"properties\":[{\"name\":\"hp\",\"type\":\"u8\",\"cond\":\"none\",\"init\":100},{\"name\":\"ammo\",\"type\":\"u32\",\"cond\":\"owner\",\"init\":0},{\"name\":\"team\",\"type\":\"enum:4\",\"cond\":\"initial\",\"init\":0},{\"name\":\"aim\",\"type\":\"i32\",\"cond\":\"skip\",\"init\":0}],\"calls\":[{\"name\":\"fire\",\"kind\":\"server\",\"reliable\":true,\"args\":[\"i32\"]},{\"name\":\"hurt\",\"kind\":\"client\",\"reliable\":true,\"args\":[\"u8\"]},{\"name\":\"boom\",\"kind\":\"multicast\",\"reliable\":false,\"args\":[\"packed\"]},{\"name\":\"blob\",\"kind\":\"server\",\"reliable\":true,\"args\":[\"bytes:2048\"]}]},{\"name\":\"Flag\",\"path\":\"/Game/Flag\",\"parent\":null,\"relevancy\":\"always\",\"cull\":0,\"priority\":1,\"properties\":[{\"name\":\"holder\",\"type\":\"guid\",\"cond\":\"none\",\"init\":0},{\"name\":\"score\",\"type\":\"packed\",\"cond\":\"none\",\"init\":0}],\"calls\":[]},{\"name\":\"Purse\",\"path\":\"/Game/Purse\",\"parent\":null,\"relevancy\":\"owner\",\"cull\":0,\"priority\":1,\"properties\":[{\"name\":\"gold\",\"type\":\"i64\",\"cond\":\"none\",\"init\":0}],\"calls\":[]}]}"
